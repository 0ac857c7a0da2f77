use Rattle.std.proofs.Common.{rules, ◌≡◌, ℕ, List, [], ◌∙◌, length, ap, subst, sym, arith}
use Rattle.std.proofs.lemmas.List.Elements.{All-same}
use Rattle.atomic_table.specs.Table.{opening}
use Rattle.sim_steps.specs.Layout.{Settings}
use Rattle.sim_totals.specs.Rule.{ShowsRun, plain, whole}
use Rattle.sim_totals.specs.Values.{AdderValue, TableValue, IsNew, fresh_from}
use Rattle.sim_totals.proofs.Parts.{opens, first_words_are, length-fresh, fresh_new}
use Rattle.sim_totals.proofs.table.TotalsTable.open.Goals as goal

pub of_words-requires : goal.of_words-requires
of_words-requires c =
    let k : Settings = record { adds = c.args.adds.now; first = c.args.first.now } in
    subst (λ (xs : List ℕ). let q : Settings = record { adds = xs; first = c.args.first.now } in
    ShowsRun q (opening c.as_slice.result.now [] (whole q))) (sym c.in_ok-copied.ensures)
    (opens k c.as_slice.result.now (c.as_slice.ensures.value
    ∙ first_words_are k c.in_ok-words.words.items c.total.result c.total.ensures c.in_ok-words.ensures))

pub returns-clause-count : goal.returns-clause-count
returns-clause-count c =
    let t : TableValue = record {
      table_id = c.in_ok-table.table.shared.table_id;
      settings = plain c.in_ok-table.table.shared.key;
    } in
    omega (
      arith,
      c.deal.new.out.ok.0,
      ap (length {A = AdderValue}) c.in_ok-deal.ensures.adders,
      length-fresh t 0 (length c.args.adds.now),
    )

pub returns-clause-ready : goal.returns-clause-ready
returns-clause-ready c =
    let k : Settings = plain c.in_ok-table.table.shared.key in
    let t : TableValue = record { table_id = c.in_ok-table.table.shared.table_id; settings = k } in
    let n : ℕ = length c.args.adds.now in
    let same : k.adds ≡ c.args.adds.now = search rules in
    All-same (IsNew t) c.deal.new.out.items (fresh_from t 0 n) c.in_ok-deal.ensures.adders
    (fresh_new t 0 n (omega (arith, ap (length {A = ℕ}) same)))
