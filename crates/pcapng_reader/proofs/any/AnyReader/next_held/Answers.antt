use Rattle.std.proofs.Common.{[], sym, ap, ◌∙◌, subst}
use Rattle.pcapng_reader.specs.Inner.{of_savefile, reading_of}
use Rattle.pcapng_reader.specs.Reading.{HoldsPacket, Reading}
use Rattle.pcapng_reader.proofs.AnyFacts.{gives_held, gives_same, none_held}
use Rattle.pcapng_reader.proofs.any.AnyReader.next_held.Goals as goal
use Rattle.pcapng_reader.proofs.any.AnyReader.next_held.Goals.{in-Savefile, in-Blocks}

pub returns-clause-packet : goal.returns-clause-packet
returns-clause-packet c = λ held. elim c.match-self.branch [
  | in-Savefile w ↦
      gives_same c.args.self.now (of_savefile w.in-Savefile.reader) (reading_of c.match-self.self-inside.inner)
      (of_savefile w.next_held.new.self) [] (ap reading_of (sym w.in-Savefile.is) ∙ c.self.view_is)
      (ap (λ i. reading_of i.inner) (sym w.self-inside-is))
      (gives_held w.in-Savefile.reader w.next_held.new.self w.next_held.ensures.order w.next_held.ensures.fraction
      (w.next_held.ensures.packet (sym w.result-is ∙ held)))
  | in-Blocks w ↦
      gives_same c.args.self.now w.in-Blocks.reader (reading_of c.match-self.self-inside.inner)
      w.next_held-in-Blocks.new.self [] (ap reading_of (sym w.in-Blocks.is) ∙ c.self.view_is)
      (ap (λ i. reading_of i.inner) (sym w.self-inside-is))
      (w.next_held-in-Blocks.ensures.packet (sym w.result-is ∙ held))
]

pub returns-clause-not_whole : goal.returns-clause-not_whole
returns-clause-not_whole c = λ none. elim c.match-self.branch [
  | in-Savefile w ↦
      none_held c.args.self.now w.in-Savefile.reader (ap reading_of (sym w.in-Savefile.is) ∙ c.self.view_is)
      (w.next_held.ensures.not_whole (sym w.result-is ∙ none))
  | in-Blocks w ↦
      subst (λ (r : Reading). HoldsPacket r.form r.offset r.pending → ⊥)
      (ap reading_of (sym w.in-Blocks.is) ∙ c.self.view_is)
      (w.next_held-in-Blocks.ensures.not_whole (sym w.result-is ∙ none))
]
