-- A bucket word is loaded, and the row is put where it tells.
use Rattle.std.proofs.Common.{ℕ, ◌+◌, ◌∙◌, refl, sym, ap, subst}
use Rattle.std.specs.Prelude.{◌==◌, is_some}
use Rattle.own_rows.specs.Rows.{HasRows, first_of}
use Rattle.lasting_model.specs.Codes.{row_in}
use Rattle.lasting_calls.specs.Going.{Going}
use Rattle.lasting_calls.specs.Sweeps.{home_put}
use Rattle.lasting_calls.proofs.HomeLemmas.{home_is, load_asked, looked_home, put_todo, rows_before}
use Rattle.lasting_calls.proofs.sweeping.look_home.Goals as goal

pub unreachable-requires : goal.unreachable-requires
unreachable-requires g c =
    let a = c.requires.at in
    c.in_default.not-Some a.at.row (c.home.ensures _ a.at.at.has)

pub load-word-requires : goal.load-word-requires
load-word-requires g c =
    let f : Going = g.S.Steps.now c.args.steps.now in
    let a = c.requires.at in
    let is = home_is c.home.result c.in-Some.row c.in-Some.bucket a.at.row c.in-Some.is
    (c.home.ensures _ a.at.at.has) in
    record {
      asked = load_asked f a.first a.update a.left c.args.rows.now a.at a.more c.args.desk.now c.requires.desk _
          (c.bucket-place.ensures ∙ ap (λ (k : ℕ). c.args.desk.now.buckets + k) is.1);
    }

pub returns-clause-looked : goal.returns-clause-looked
returns-clause-looked g c a =
    let f : Going = g.S.Steps.now c.args.steps.now in
    let is = home_is c.home.result c.in-Some.row c.in-Some.bucket a.at.row c.in-Some.is
    (c.home.ensures _ a.at.at.has) in
    let before = rows_before f a.first a.update a.left c.args.rows.now a.at a.more in
    let word : ℕ = c.load-word.result in
    let put : HasRows c.put_home.new.rows (home_put (row_in word == a.at.row.0) before a.at.row a.at.todo) =
    subst (λ (k : ℕ). HasRows c.put_home.new.rows (home_put (row_in word == k) before a.at.row a.at.todo)) is.0
    (c.put_home.ensures.rows before a.at.row a.at.todo a.at.at.has refl) in
    looked_home f a.first a.update a.left c.args.rows.now a.at a.more (g.S.Steps.now c.load-word.new.self) word
    c.load-word.ensures.goes c.put_home.new.rows c.put_home.ensures.sound c.put_home.ensures.same put c.is_none.result
    (sym (ap is_some (c.home-2.ensures _ put
    ∙ ap first_of (put_todo (row_in word == a.at.row.0) before a.at.row a.at.todo)))
    ∙ c.is_none.ensures)
