-- What is given are the first bytes of what was left: of the piece, of the next record, or none where none is left.
use Rattle.std.proofs.Common.{ℕ, List, ◌≡◌, ◌-◌, ◌++◌, true, false, length, sym, subst, arith}
use Rattle.pcap_reader.specs.Made.{made_records}
use Rattle.pcap_reader.proofs.MadePieces.{IsReadyIn, given_behind, given_front, given_none, ready_end, ready_piece, ready_record}
use Rattle.pcap_reader.proofs.made_source.MadeSource.give_behind.Goals as goal
use Rattle.pcap_reader.proofs.made_source.MadeSource.give_behind.Goals.{then-is_empty+then-self, else-is_empty, else-is_empty-via-then-is_empty+else-self, else-is_empty-via-else-is_empty}

pub returns : goal.returns
returns c =
    let was = c.self.inside in
    let s = c.if-is_empty.self-inside in
    let now : List ℕ = c.args.self.now in
    let parts = sym c.self.view_is in
    let ready : IsReadyIn now s =
    elim c.if-is_empty.branch [
      | then-is_empty+then-self w ↦ subst (IsReadyIn now) (sym w.self-inside-is)
          (ready_record now was.piece was.number was.made was.packets parts w.put_record.new.self
          (c.is_empty.ensures.0 w.if-is_empty.true) w.if-self.true w.put_record.ensures)
      | else-is_empty w ↦ subst (IsReadyIn now) (sym w.self-inside-is) (elim w.else-is_empty.branch [
        | else-is_empty-via-then-is_empty+else-self v ↦
            ready_end now was.piece was.number was.made was.packets parts v.if-self.false
        | else-is_empty-via-else-is_empty v ↦
            ready_piece now was.piece was.number was.made was.packets parts
            (λ empty. (let yes : c.is_empty.result ≡ true = c.is_empty.ensures.1 empty in
            let other : c.is_empty.result ≡ false = v.if-is_empty.false in
            cc))
      ])
    ] in
    let later : List ℕ = made_records s.number s.made (s.packets - s.made) in
    record {
      within = omega (arith, c.requires, c.give.ensures.within);
      bytes = given_behind c.args.buf.now c.give.new.out now (c.give.new.self ++ later) c.args.filled c.give.result _
          (omega (arith, c.requires)) c.give.ensures.within
          (given_front now s.piece later ready _ c.give.new.self c.give.ensures.copied);
      end = given_none now s.piece later ready c.give.result (length c.args.buf.now - c.args.filled)
          (omega (arith, c.give.ensures.count)) (omega (arith, c.requires));
    }
