-- What an event makes of the memory and its history.
use Rattle.std.proofs.Common.{ℕ, ◌+◌, true, false, List}
use Rattle.std.specs.Prelude.{Option, Some, None}
use Rattle.plain_map.specs.declared.calls.Call.{Call}
use Rattle.word_rows.specs.declared.addresses.Address.TheVariants.{Announcement, BucketWord}
use Rattle.word_rows.specs.Memory.{put, put_at, write}
use Rattle.bucket_states.specs.declared.ops.Op.{Op}
use Rattle.table_model.specs.Setup.{Setup}
use Rattle.table_model.specs.declared.rounds.Aim.{Aim}
use Rattle.table_model.specs.declared.rounds.Aim.TheVariants.{ForLookup, ForFirstRound, ForSecondRound, ForLastLook}
use Rattle.table_model.specs.declared.rounds.Round.{Round}
use Rattle.table_model.specs.Phases.{BucketTry, Phase, FindRoot, LookWord, TryWord, DirRoot, DirWord, LastWord}
use Rattle.table_model.specs.Stores.{made_bucket}
use Rattle.run_invariant.proofs.Invariant.{Common, Local, op_no, row_no, made_words, op_words_of}

-- an update is announced
abbrev pub announced : Setup → ℕ → (number : ℕ) → Call → Common → Common
announced setup me number call c = record c {
  memory = write c.memory (Announcement me) (op_no setup me (c.used me).op_rows + 1);
  used = put c.used me (record (c.used me) { op_rows = (c.used me).op_rows + 1 });
  op_at = put_at c.op_at me (c.used me).op_rows (record { seat = me; number = number; call = call });
  op_words = put_at c.op_words me (c.used me).op_rows (op_words_of number call);
  rooted = put c.rooted me false;
  tried = put c.tried me false;
  dir_tried = put c.dir_tried me false;
}

-- it loads the root for the first time
abbrev pub roots_after : ℕ → Aim → Common → Common
roots_after me ForFirstRound c = record c { rooted = put c.rooted me true; first_dir = put c.first_dir me c.dir_top }
roots_after me ForLookup c = c
roots_after me (ForSecondRound first) c = c
roots_after me ForLastLook c = c

-- the first bucket try of a round loads its bucket word
abbrev pub tries_after : ℕ → Round → Option ℕ → Common → Common
tries_after me round None c = record c {
  tried = put c.tried me true;
  tried_at = put c.tried_at me round.bucket;
  since = put c.since me (c.top round.bucket);
  dir_tried = put c.dir_tried me false;
}
tries_after me round (Some first) c = c

-- the first directory try of a round loads the root
abbrev pub dir_tries_after : ℕ → Option ℕ → Common → Common
dir_tries_after me None c = record c { dir_tried = put c.dir_tried me true; dir_since = put c.dir_since me c.dir_top }
dir_tries_after me (Some first) c = c

-- a bucket row is published
abbrev pub published : Setup → ℕ → (bucket : ℕ) → BucketTry → List (Option Op) → Common → Common
published setup me bucket attempt found c = record c {
  memory = write c.memory (BucketWord bucket) (row_no setup me (c.used me).bucket_rows);
  used = put c.used me (record (c.used me) { bucket_rows = (c.used me).bucket_rows + 1 });
  top = put c.top bucket (c.top bucket + 1);
  row_at = put_at c.row_at bucket (c.top bucket + 1) (row_no setup me (c.used me).bucket_rows);
  base_at = put_at c.base_at bucket (c.top bucket + 1) (Some attempt.row);
  words_at = put_at c.words_at bucket (c.top bucket + 1) (made_words setup attempt found);
  state_at = put_at c.state_at bucket (c.top bucket + 1) (made_bucket setup attempt found);
}

-- the places of what it loads
abbrev pub local_after : Phase → Common → Local → Local
local_after (FindRoot aim) c local = record local { dir = c.dir_top }
local_after (LookWord root bucket) c local = record local { at = bucket; base = c.top bucket }
local_after (TryWord round turn first) c local = record local { base = c.top round.bucket }
local_after (DirRoot round turn first) c local = record local { root = c.dir_top }
local_after (DirWord round attempt found loaded bucket) c local = record local { base = c.top bucket }
local_after (LastWord root bucket) c local = record local { at = bucket; base = c.top bucket }
local_after phase c local = local
