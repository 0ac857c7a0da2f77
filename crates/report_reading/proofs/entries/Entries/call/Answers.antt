use Rattle.std.proofs.Common.{◌≡◌, ◌∙◌, true, false, refl, subst, sym, rules}
use Rattle.std.proofs.lemmas.Bool.{true≢false}
use Rattle.key_texts.specs.Inserts.{IsOfRule}
use Rattle.report_text.specs.declared.parts.Head.{Head}
use Rattle.report_lines.proofs.EntryLines.{CallFits}
use Rattle.report_told.specs.Rules.{ended_packets, waiting_packets}
use Rattle.report_reading.proofs.EntryLemmas.{answered_entry, call_by_rule, can_be_refused, can_end, refused_entry, short_test}
use Rattle.report_reading.proofs.HoldLemmas.{call_fits, call_taken, low_seat, match_along, of_false, of_true, refused_same}
use Rattle.report_reading.proofs.entries.Entries.call.Goals as goal

pub returns-then-not-is_of_rule : goal.returns-then-not-is_of_rule
returns-then-not-is_of_rule c = λ head entries bytes rest holds read few are.
    of_false c.is_of_rule.result _ _ (search rules) c.is_of_rule.ensures
    (call_by_rule head c.args.self.now.head entries c.args.line.now holds.head_is are)

pub returns-then-not-branch : goal.returns-then-not-branch
returns-then-not-branch c = λ head entries bytes rest holds read few are.
    of_false c.in_ok-end-in-Answered.field-0 _ _ (search rules)
    (c.in_ok-end-in-Answered.ensures (ended_packets entries) (waiting_packets entries) holds.packets)
    (can_end head entries c.args.line.now are)

pub returns-then-not-is_short : goal.returns-then-not-is_short
returns-then-not-is_short c = λ head entries bytes rest holds read few are.
    (let test : short_test c.args.self.now.need c.in-Refused.full ≡ true =
    can_be_refused head holds.in_range c.args.self.now.need entries c.args.line.now c.in-Refused.full holds.need
    c.in-Refused.is are in
    let failed : c.is_short.result ≡ false = search rules in
    true≢false (sym test ∙ sym c.is_short.ensures ∙ failed))

pub returns-in_ok-answer-in-Answered : goal.returns-in_ok-answer-in-Answered
returns-in_ok-answer-in-Answered c = λ head entries bytes rest holds read few.
    (let fits : CallFits head.seats c.args.line.now =
    call_fits c.args.self.now head entries bytes c.args.line.now rest holds read in
    let ended = of_true c.in_ok-end-in-Answered.field-0 _ _ (search rules)
    (c.in_ok-end-in-Answered.ensures (ended_packets entries) (waiting_packets entries) holds.packets) in
    let rule : IsOfRule head.calls c.args.line.now.call =
    subst (λ (h : Head). IsOfRule h.calls c.args.line.now.call) holds.head_is
    (of_true c.is_of_rule.result _ _ (search rules) c.is_of_rule.ensures) in
    call_taken c.args.self.now (record {
      head = c.args.self.now.head;
      need = c.args.self.now.need;
      packets = c.end.new.self;
      answers = c.answer.new.self;
      pending = c.args.self.now.pending;
      order = c.args.self.now.order;
    }) head entries c.args.line.now holds
    (answered_entry head c.args.line.now c.in-Answered.reply c.in-Answered.steps c.in-Answered.seen rule
    fits c.in-Answered.is)
    ended.0 ended.1
    (c.in_ok-answer-in-Answered.ensures entries holds.answers (low_seat head holds.in_range c.args.line.now fits) few
    c.in-Answered.is)
    refl refl refl refl)

pub returns-in_ok-good-in-Refused : goal.returns-in_ok-good-in-Refused
returns-in_ok-good-in-Refused c = λ head entries bytes rest holds read few.
    (let fits : CallFits head.seats c.args.line.now =
    call_fits c.args.self.now head entries bytes c.args.line.now rest holds read in
    let test : short_test c.args.self.now.need c.in-Refused.full ≡ true = search rules in
    let rule : IsOfRule head.calls c.args.line.now.call =
    subst (λ (h : Head). IsOfRule h.calls c.args.line.now.call) holds.head_is
    (of_true c.is_of_rule.result _ _ (search rules) c.is_of_rule.ensures) in
    match_along c.in_ok-good-in-Refused.good _ _ _ _
    (λ ended. call_taken c.args.self.now (record {
      head = c.args.self.now.head;
      need = c.args.self.now.need;
      packets = c.end-in-Refused.new.self;
      answers = c.args.self.now.answers;
      pending = c.args.self.now.pending;
      order = c.args.self.now.order;
    }) head entries c.args.line.now holds
    (refused_entry head c.args.self.now.need c.args.line.now c.in-Refused.full holds.need rule fits c.in-Refused.is
    test)
    ended.0 ended.1
    (refused_same c.args.self.now.answers entries c.args.line.now c.in-Refused.full c.in-Refused.is holds.answers)
    refl refl refl refl)
    (λ never are. never (can_end head entries c.args.line.now are))
    (c.in_ok-good-in-Refused.ensures (ended_packets entries) (waiting_packets entries) holds.packets))
