-- What may come of a row that the ghost has loaded in a bucket try: the update is in it, or it is frozen, or the ghost
-- goes on to the announcements.
use Rattle.std.proofs.Common.{◌≡◌, ℕ, ◌≤◌, Bool, true, false, cond, [], refl}
use Rattle.std.specs.Prelude.{None, nat_le}
use Rattle.std.proofs.lemmas.Bool.{leb-true}
use Rattle.table_model.specs.declared.rounds.Round.{Round}
use Rattle.table_model.specs.Phases.{BucketTry, TryAnnouncement, DirRoot, Stuck}
use Rattle.table_model.specs.SeatStates.{Flight}
use Rattle.table_model.specs.Goes.{after_row, answered_by, is_applied}

-- what comes of a look
pub data Looked (seat : ℕ) (flight : Flight) (round : Round) (attempt : BucketTry) : Type 0 where
  has_it : is_applied seat flight attempt.state ≡ true →
      after_row seat flight round attempt ≡ answered_by seat attempt.state attempt.row →
      Looked seat flight round attempt
  is_frozen : attempt.state.frozen ≡ true → after_row seat flight round attempt ≡ DirRoot round 1 None →
      Looked seat flight round attempt
  is_open : is_applied seat flight attempt.state ≡ false → attempt.state.frozen ≡ false → attempt.turn ≤ 2 →
      after_row seat flight round attempt ≡ TryAnnouncement round attempt [] → Looked seat flight round attempt
  is_stuck : after_row seat flight round attempt ≡ Stuck → Looked seat flight round attempt

pub looked : (seat : ℕ) (flight : Flight) (round : Round) (attempt : BucketTry) → Looked seat flight round attempt
looked seat flight round attempt = go (is_applied seat flight attempt.state) refl
  where
    open_turn : (t : Bool) → nat_le attempt.turn 2 ≡ t → is_applied seat flight attempt.state ≡ false →
        attempt.state.frozen ≡ false → Looked seat flight round attempt
    open_turn true less none live = is_open none live (leb-true attempt.turn 2 less)
        ((λ i. cond (none i) (answered_by seat attempt.state attempt.row)
        (cond (live i) (DirRoot round 1 None) (cond (less i) (TryAnnouncement round attempt []) Stuck))))
    open_turn false less none live = is_stuck
        ((λ i. cond (none i) (answered_by seat attempt.state attempt.row)
        (cond (live i) (DirRoot round 1 None) (cond (less i) (TryAnnouncement round attempt []) Stuck))))

    by_frozen : (t : Bool) → attempt.state.frozen ≡ t → is_applied seat flight attempt.state ≡ false →
        Looked seat flight round attempt
    by_frozen true e none = is_frozen e
        (λ i. cond (none i) (answered_by seat attempt.state attempt.row)
        (cond (e i) (DirRoot round 1 None) (cond (nat_le attempt.turn 2) (TryAnnouncement round attempt []) Stuck)))
    by_frozen false e none = open_turn (nat_le attempt.turn 2) refl none e

    go : (t : Bool) → is_applied seat flight attempt.state ≡ t → Looked seat flight round attempt
    go true e = has_it e
        (λ i. cond (e i) (answered_by seat attempt.state attempt.row)
        (cond attempt.state.frozen (DirRoot round 1 None)
        (cond (nat_le attempt.turn 2) (TryAnnouncement round attempt []) Stuck)))
    go false e = by_frozen attempt.state.frozen refl e
