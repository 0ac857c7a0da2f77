-- Three steps.
use Rattle.std.proofs.Common.{refl}
use Rattle.lasting_calls.proofs.GiveLemmas.{bucket_asked, bucket_few, giving_asked, has_given, want_asked}
use Rattle.lasting_calls.proofs.sweeping.give.Goals as goal

pub load-bucket-requires : goal.load-bucket-requires
load-bucket-requires g c = record {
  asked = want_asked (g.S.Steps.now c.args.steps.now) c.args.seat c.args.asking c.requires.asks c.requires.odd
      c.args.desk.now c.requires.desk _ c.want-wanted.ensures;
}

pub bucket-place-requires : goal.bucket-place-requires
bucket-place-requires g c =
    bucket_few (g.S.Steps.now c.args.steps.now) c.args.seat c.args.asking c.requires.asks c.requires.odd
    c.args.desk.now c.requires.desk (g.S.Steps.now c.load-bucket.new.self) c.load-bucket.result
    c.load-bucket.ensures.goes c.stands.ensures

pub load-word-requires : goal.load-word-requires
load-word-requires g c = record {
  asked = bucket_asked (g.S.Steps.now c.args.steps.now) c.args.seat c.args.asking c.requires.asks c.requires.odd
      c.args.desk.now c.requires.desk (g.S.Steps.now c.load-bucket.new.self) c.load-bucket.result
      c.load-bucket.ensures.goes _ c.bucket-place.ensures;
}

pub exchange-requires : goal.exchange-requires
exchange-requires g c = record {
  asked = giving_asked (g.S.Steps.now c.args.steps.now) c.args.seat c.args.asking c.requires.asks c.requires.odd
      c.args.desk.now c.requires.desk (g.S.Steps.now c.load-bucket.new.self) c.load-bucket.result
      c.load-bucket.ensures.goes (g.S.Steps.now c.load-word.new.self) c.load-word.result c.load-word.ensures.goes
      _ _ _ c.hold-hold.ensures refl refl;
}

pub returns : goal.returns
returns g c a =
    has_given (g.S.Steps.now c.args.steps.now) c.args.seat c.args.asking a c.requires.odd
    c.args.desk.now c.requires.desk (g.S.Steps.now c.load-bucket.new.self) c.load-bucket.result
    c.load-bucket.ensures.goes (g.S.Steps.now c.load-word.new.self) c.load-word.result c.load-word.ensures.goes
    (g.S.Steps.now c.exchange.new.self) c.exchange.result c.exchange.ensures.goes
