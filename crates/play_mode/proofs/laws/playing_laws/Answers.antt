use Rattle.play_mode.proofs.RightPlays.{plays_are_right}
use Rattle.play_mode.proofs.UnrefusedPlays.{none_is_refused}
use Rattle.play_mode.proofs.laws.playing_laws.Goals as goal

pub returns-clause-right : goal.returns-clause-right
returns-clause-right c =
    plays_are_right c.schedule_laws.ensures.runs c.schedule_laws.ensures.end c.one_order_laws.ensures.legal
    c.one_order_laws.ensures.after c.one_order_laws.ensures.whole c.end_laws.ensures.pairs c.end_laws.ensures.depth
    c.warrant_laws.ensures.warranted c.cover_laws.ensures.cover c.step_laws.ensures.bounded

pub returns-clause-answered : goal.returns-clause-answered
returns-clause-answered c = λ setup calls stops schedule can ranges.
    none_is_refused setup calls stops schedule c.row_laws.ensures.suffice can ranges
