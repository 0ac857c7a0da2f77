use Rattle.std.proofs.Common.{sym, ap, ◌∙◌, Ok, Err}
use Rattle.capture_faults.specs.declared.any_fault.AnyFault.TheVariants.{Capture}
use Rattle.pcapng_reader.specs.Inner.{of_savefile, reading_of}
use Rattle.pcapng_reader.proofs.AnyFacts.{answers_item, answers_refused, answers_same}
use Rattle.pcapng_reader.proofs.any.AnyReader.next.Goals as goal
use Rattle.pcapng_reader.proofs.any.AnyReader.next.Goals.{in-Savefile+in-Ok, in-Savefile+in-Err, in-Blocks}

pub returns-clause-answers : goal.returns-clause-answers
returns-clause-answers g c =
    let before = g.S.Source.left c.args.source.now in
    let after = g.S.Source.left c.match-self.source in
    let old = c.args.self.now in
    let new = reading_of c.match-self.self-inside.inner in
    elim c.match-self.branch [
      | in-Savefile+in-Ok w ↦
          answers_same old (of_savefile w.in-Savefile.reader) new (of_savefile w.next.new.self) before after
          (g.S.Source.left w.next.new.source) c.match-self.result (Ok w.in-Ok.item)
          (ap reading_of (sym w.in-Savefile.is) ∙ c.self.view_is)
          (ap (λ i. reading_of i.inner) (sym w.self-inside-is)) (ap g.S.Source.left (sym w.source-is))
          (sym w.result-is)
          (answers_item w.in-Savefile.reader w.next.new.self before (g.S.Source.left w.next.new.source) w.in-Ok.item
          w.in-Ok.ensures.order w.in-Ok.ensures.fraction w.in-Ok.ensures.took w.in-Ok.ensures.ending
          w.in-Ok.ensures.held)
      | in-Savefile+in-Err w ↦
          answers_same old (of_savefile w.in-Savefile.reader) new (of_savefile w.next.new.self) before after
          (g.S.Source.left w.next.new.source) c.match-self.result (Err (Capture w.in-Err.fault))
          (ap reading_of (sym w.in-Savefile.is) ∙ c.self.view_is)
          (ap (λ i. reading_of i.inner) (sym w.self-inside-is)) (ap g.S.Source.left (sym w.source-is))
          (sym w.result-is)
          (answers_refused w.in-Savefile.reader w.next.new.self before (g.S.Source.left w.next.new.source)
          w.in-Err.fault
          w.in-Err.ensures.took w.in-Err.ensures.held w.in-Err.ensures.interrupted)
      | in-Blocks w ↦
          let a = w.in-Blocks in
          let b = w.next-in-Blocks in
          let r = w.result-is in
          let s = w.self-inside-is in
          answers_same old w.in-Blocks.reader new w.next-in-Blocks.new.self before after
          (g.S.Source.left w.next-in-Blocks.new.source) c.match-self.result w.next-in-Blocks.result
          (ap reading_of (sym w.in-Blocks.is) ∙ c.self.view_is)
          (ap (λ i. reading_of i.inner) (sym w.self-inside-is)) (ap g.S.Source.left (sym w.source-is))
          (sym w.result-is) w.next-in-Blocks.ensures.answers
    ]
