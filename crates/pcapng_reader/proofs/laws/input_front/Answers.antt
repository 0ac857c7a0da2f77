use Rattle.pcapng_reader.proofs.InputFacts.{front_of}
use Rattle.pcapng_reader.proofs.laws.input_front.Goals as goal

pub returns : goal.returns
returns c = λ link bytes front packets form place ending reaches input.
    front_of link bytes front packets form place ending (c.capture_front.ensures link bytes)
    (c.one_input.ensures link bytes) reaches
    input
