use Rattle.word_rows.proofs.Apart.{place_apart, place_within}
use Rattle.word_rows.proofs.Ranges.{one_owner, in_range, words_few}
use Rattle.word_rows.proofs.places.place_laws.Goals as goal

pub returns-clause-apart : goal.returns-clause-apart
returns-clause-apart c = place_apart

pub returns-clause-within : goal.returns-clause-within
returns-clause-within c = place_within

pub returns-clause-one_owner : goal.returns-clause-one_owner
returns-clause-one_owner c = one_owner

pub returns-clause-in_range : goal.returns-clause-in_range
returns-clause-in_range c = in_range

pub returns-clause-few : goal.returns-clause-few
returns-clause-few c = words_few
