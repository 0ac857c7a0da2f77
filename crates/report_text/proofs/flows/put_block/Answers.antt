use Rattle.std.proofs.Common.{◌≡◌, ◌++◌, ◌∙◌, ℕ, List, OnOk, ap, subst}
use Rattle.report_text.specs.Flows.{at_line, flow_count_line, flows_block}
use Rattle.report_text.specs.Lines.{text_in}
use Rattle.report_text.proofs.LineLemmas.{three_texts}
use Rattle.report_text.proofs.flows.put_block.Goals as goal

pub returns-clause-appended : goal.returns-clause-appended
unfolding flows_block
returns-clause-appended c =
    let place : text_in c.put_at.new.out ≡ at_line c.args.at = c.put_at.ensures
    ∙ ap (λ (text : List ℕ). text ++ at_line c.args.at) c.new-line.ensures.empty in
    let counts : text_in c.put_count.new.out ≡ flow_count_line c.args.counts.now = c.put_count.ensures
    ∙ ap (λ (text : List ℕ). text ++ flow_count_line c.args.counts.now) c.clear.ensures.empty in
    let begun = c.in_ok-append.ensures.appended ∙ ap (λ (text : List ℕ). c.args.out.now.items ++ text) place in
    subst (λ (text : List ℕ). OnOk c.append-2.result (c.append-2.new.out.items ≡ text))
    (ap (λ (text : List ℕ). c.put_sessions.new.out.items ++ text) counts
    ∙ three_texts _ _ _ _ _ _ begun c.in_ok-put_sessions.ensures.appended)
    c.append-2.ensures.appended
