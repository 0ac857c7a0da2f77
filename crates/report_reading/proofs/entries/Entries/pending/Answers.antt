use Rattle.std.proofs.Common.{◌≡◌, ◌∙◌, true, refl, subst, sym, ap, rules}
use Rattle.key_texts.specs.Inserts.{IsOfRule}
use Rattle.report_text.specs.declared.parts.Head.{Head}
use Rattle.report_lines.proofs.EntryLines.{PendingFits}
use Rattle.report_told.specs.Rules.{ended_packets, waiting_packets}
use Rattle.report_reading.proofs.EntryLemmas.{can_wait, pending_by_rule, pending_entry}
use Rattle.report_reading.proofs.HoldLemmas.{pending_fits, pending_taken, of_false, of_true}
use Rattle.report_reading.proofs.entries.Entries.pending.Goals as goal

pub returns-then-not-branch : goal.returns-then-not-branch
returns-then-not-branch c = λ head entries bytes rest holds read are.
    of_false c.in_ok-wait.field-0 _ _ (search rules)
    (c.in_ok-wait.ensures (ended_packets entries) (waiting_packets entries) holds.packets)
    (can_wait head entries c.args.line.now are).1

pub returns-then-not-is_of_rule : goal.returns-then-not-is_of_rule
returns-then-not-is_of_rule c = λ head entries bytes rest holds read are.
    of_false c.is_of_rule.result _ _ (search rules) c.is_of_rule.ensures
    (pending_by_rule head c.args.self.now.head entries c.args.line.now holds.head_is are)

pub returns : goal.returns
returns c = λ head entries bytes rest holds read.
    (let fits : PendingFits head.seats c.args.line.now =
    pending_fits c.args.self.now head entries bytes c.args.line.now rest holds read in
    let waits = of_true c.in_ok-wait.field-0 _ _ (search rules)
    (c.in_ok-wait.ensures (ended_packets entries) (waiting_packets entries) holds.packets) in
    let own : c.args.self.now.head.play ≡ true = search rules in
    let play : head.play ≡ true = ap (λ (h : Head). h.play) (sym holds.head_is) ∙ own in
    let rule : IsOfRule head.calls c.args.line.now.call =
    subst (λ (h : Head). IsOfRule h.calls c.args.line.now.call) holds.head_is
    (of_true c.is_of_rule.result _ _ (search rules) c.is_of_rule.ensures) in
    pending_taken c.args.self.now (record {
      head = c.args.self.now.head;
      need = c.args.self.now.need;
      packets = c.wait.new.self;
      answers = c.args.self.now.answers;
      pending = c.push.new.self;
      order = c.args.self.now.order;
    }) head entries c.args.line.now holds (pending_entry head c.args.line.now play rule fits) waits.0
    waits.1 refl refl refl
    c.in_ok-push.ensures.items refl)
