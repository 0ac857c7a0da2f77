-- What the words of a closed table tell.
use Rattle.std.proofs.Common.{◌≡◌, ℕ, ◌+◌, ◌^◌, ◌<◌, ◌≤◌, List, length, get_or, sym, ap, ◌∙◌, subst}
use Rattle.std.specs.Prelude.{All}
use Rattle.sim_steps.specs.declared.adds.Totals.{Totals}
use Rattle.sim_steps.specs.declared.words.Desk.{Desk}
use Rattle.sim_steps.specs.declared.words.Address.TheVariants.{Root, StateWord}
use Rattle.sim_steps.specs.Layout.{Settings, AreSettings, desk_of}
use Rattle.sim_steps.specs.World.{Event, world_after}
use Rattle.sim_steps.specs.Order.{Entry, read_word, read_order}
use Rattle.sim_steps.specs.Laws.{IsShortOrder}
use Rattle.sim_totals.specs.Values.{AdderValue, Ran}
use Rattle.sim_totals.specs.Insides.{Left}

module _ (k : Settings) (desk : Desk) (e : desk ≡ desk_of k 0) (ws : List ℕ) (adders : List AdderValue)
    (left : Left k ws adders) where
  -- that the order of a list of events is short, as the adder's program promises
  pub short_order : ((c : Settings) (es : List Event) → AreSettings c → IsShortOrder c es) → AreSettings k →
      (length (read_order desk.seats desk.rows ws) ≤ desk.rows)
      × All (λ entry. entry.1 < 2 ^ 32) (read_order desk.seats desk.rows ws)
  short_order law ok =
      subst (λ (d : Desk). (length (read_order d.seats d.rows ws) ≤ d.rows)
      × All (λ entry. entry.1 < 2 ^ 32) (read_order d.seats d.rows ws)) (sym e)
      (subst (λ (xs : List ℕ). let d = desk_of k 0 in
      (length (read_order d.seats d.rows xs) ≤ d.rows)
      × All (λ entry. entry.1 < 2 ^ 32) (read_order d.seats d.rows xs)) left.words (law k left.run ok))

  -- three numbers are read from that word on
  abbrev Reads : ℕ → List ℕ → Type 0
  Reads first numbers = (class : ℕ) → class < 3 →
      get_or numbers class 0 ≡ read_word desk.seats desk.rows ws
      (StateWord (read_word desk.seats desk.rows ws Root) (first + class))

  -- they are those of the world
  reads_world : (first : ℕ) (numbers : List ℕ) → Reads first numbers → (class : ℕ) → class < 3 →
      get_or numbers class 0 ≡ (let d = desk_of k 0 in let words = (world_after k left.run).words in
      read_word d.seats d.rows words (StateWord (read_word d.seats d.rows words Root) (first + class)))
  reads_world first numbers r class h =
      r class h ∙ ap (λ (d : Desk). read_word d.seats d.rows ws
      (StateWord (read_word d.seats d.rows ws Root) (first + class))) e
      ∙ ap (λ (xs : List ℕ). let d = desk_of k 0 in
      read_word d.seats d.rows xs (StateWord (read_word d.seats d.rows xs Root) (first + class))) (sym left.words)

  -- the closed totals and order are those of a run
  pub ran : (totals : Totals) (order : List Entry) → order ≡ read_order desk.seats desk.rows ws →
      Reads 1 totals.counts → Reads 4 totals.bytes → Ran k totals order adders
  ran totals order o counts bytes = record {
    run = left.run;
    steps = left.steps;
    seats = left.seats;
    once = left.once;
    order_is = o ∙ ap (λ (d : Desk). read_order d.seats d.rows ws) e
        ∙ ap (λ (xs : List ℕ). let d = desk_of k 0 in read_order d.seats d.rows xs) (sym left.words);
    counts = reads_world 1 totals.counts counts;
    bytes = reads_world 4 totals.bytes bytes;
  }
