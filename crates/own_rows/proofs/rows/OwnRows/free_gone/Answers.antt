-- The ring of what is gone is put to the end of the free one.
use Rattle.std.proofs.Common.{ℕ, ◌∙◌, subst, sym, arith}
use Rattle.own_rows.specs.Rows.{AreSwapped, free_hook, gone_hook}
use Rattle.own_rows.proofs.RingLemmas.{counts_last}
use Rattle.own_rows.specs.Rings.{last_of}
use Rattle.own_rows.proofs.KeepLemmas.{ringed_linked}
use Rattle.own_rows.proofs.MovedLemmas.{last_back}
use Rattle.own_rows.proofs.JoinLemmas.{gone_freed, none_freed, none_gone}
use Rattle.own_rows.proofs.rows.OwnRows.free_gone.Goals as goal

pub returns-then-after-gone-clause-rows : goal.returns-then-after-gone-clause-rows
returns-then-after-gone-clause-rows c r has =
    none_freed c.args.self.now r has
    (none_gone c.args.self.now r has (sym c.after.ensures ∙ c.if-after-gone.true))

pub returns-clause-rows : goal.returns-clause-rows
returns-clause-rows c r has =
    let o = c.args.self.now in
    let mid = c.swap_links.new.self in
    gone_freed o mid c.swap_links-2.new.self c.swap_links.ensures.sound r has
    (subst (λ (k : ℕ). AreSwapped o mid k (gone_hook o))
    (c.before-last.ensures ∙ last_back o r.free (free_hook o) c.requires.sound.both
    (ringed_linked o r has (last_of r.free (free_hook o)) (omega (arith, counts_last r.free (free_hook o)))) has.free)
    c.swap_links.ensures.swapped)
    (subst (λ (k : ℕ). AreSwapped mid c.swap_links-2.new.self k (gone_hook o)) c.before-end.ensures
    c.swap_links-2.ensures.swapped)
