use Rattle.helping_laws.proofs.AnnouncedRows.{announced_in_later_rows, announced_to_later_tries}
use Rattle.helping_laws.proofs.AnnouncedRoots.{announced_in_later_directories, announced_to_later_roots, announced_in_new_buckets, announced_to_roots_of_new_buckets}
use Rattle.helping_laws.proofs.laws.announced_laws.Goals as goal

pub returns : goal.returns
returns c = record {
  rows = announced_in_later_rows;
  tries = announced_to_later_tries;
  directories = announced_in_later_directories;
  roots = announced_to_later_roots;
  new_buckets = announced_in_new_buckets;
  roots_of_new = announced_to_roots_of_new_buckets;
}
