use Rattle.std.proofs.Common.{◌∙◌}
use Rattle.word_rows.specs.LayoutView.{shape_of}
use Rattle.dir_states.specs.Openings.{first_directory, first_leaves}
use Rattle.opening_words.proofs.SetupLemmas.{is_setup, made_fits, made_words}
use Rattle.opening_words.proofs.opener.Opener.put.Goals as goal

pub put_all-requires-clause-fit : goal.put_all-requires-clause-fit
put_all-requires-clause-fit c =
    let shape = shape_of c.args.layout.now in
    let settings = c.args.self.now.settings in
    let is = is_setup shape settings c.args.hashing c.args.first.now c.requires.settings c.args.layout.now.shaped
    c.requires.small c.requires.pairs c.requires.distinct c.in_ok-make.ensures.found_room in
    made_fits shape settings c.args.hashing c.args.first.now c.requires.settings (first_leaves c.make.new.made)
    (first_directory c.make.new.made) c.in_ok-make.ensures.leaves c.in_ok-make.ensures.directory is

pub returns-clause-words : goal.returns-clause-words
returns-clause-words c =
    c.put_all.ensures.words
    ∙ made_words (shape_of c.args.layout.now) c.args.self.now.settings c.args.hashing c.args.first.now
    c.requires.settings (first_leaves c.make.new.made) (first_directory c.make.new.made) c.in_ok-make.ensures.leaves
    c.in_ok-make.ensures.directory

pub returns-clause-written : goal.returns-clause-written
returns-clause-written c =
    let shape = shape_of c.args.layout.now in
    let settings = c.args.self.now.settings in
    let is = is_setup shape settings c.args.hashing c.args.first.now c.requires.settings c.args.layout.now.shaped
    c.requires.small c.requires.pairs c.requires.distinct c.in_ok-make.ensures.found_room in
    record {
      fit = made_fits shape settings c.args.hashing c.args.first.now c.requires.settings
          (first_leaves c.make.new.made) (first_directory c.make.new.made) c.in_ok-make.ensures.leaves
          c.in_ok-make.ensures.directory is;
      are = c.put_all.ensures.words;
      long = c.put_all.ensures.len;
    }
