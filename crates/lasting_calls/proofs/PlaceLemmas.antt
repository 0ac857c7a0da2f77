-- Where a table's words stand, by what a caller has at hand.
use Rattle.std.proofs.Common.{◌≡◌, ℕ, ◌+◌, ◌*◌, ◌^◌, refl, sym, ap, ◌∙◌, arith}
use Rattle.step_counts.specs.declared.settings.Settings.{Settings}
use Rattle.plain_map.specs.declared.rules.Rules.{Rules}
use Rattle.plain_map.specs.declared.keys.Key.{Key}
use Rattle.plain_map.specs.PlainObject.{class_of}
use Rattle.table_model.specs.Setup.{rules_of, seats_of, settings_of}
use Rattle.lasting_model.specs.Plans.{Plan, ample, bucket_for, buckets_of}
use Rattle.lasting_model.specs.Codes.{SLOT_WORDS, count_place, items_start}
use Rattle.lasting_model.specs.Words.{Bucket, Hold, OpWord, RowWord, Want, most_words, place}
use Rattle.lasting_calls.specs.Desks.{IsOf}
use Rattle.lasting_calls.specs.Going.{Going}
use Rattle.lasting_calls.specs.declared.desk.Desk.{Desk}

-- the ghost has the settings of the plan
pub ample_settings : (plan : Plan) → settings_of (ample plan) ≡ plan.settings
unfolding ample
ample_settings plan = refl

pub ample_seats : (plan : Plan) → seats_of (ample plan) ≡ plan.settings.seats
unfolding ample
ample_seats plan = refl

-- and its rules
pub ample_rules : (plan : Plan) → rules_of (ample plan)
    ≡ record { items = plan.settings.items; depth = plan.settings.depth; hashing = plan.hashing }
unfolding ample
ample_rules plan = refl

-- the rules at hand are those of the plan
pub rules_same : (g : Going) (desk : Desk) → IsOf g desk → desk.rules ≡ rules_of (ample g.plan)
rules_same g desk is =
    (λ i. record {
      items = (desk.items ∙ ap (λ (s : Settings). s.items) (sym is.settings)) i;
      depth = (desk.depth ∙ ap (λ (s : Settings). s.depth) (sym is.settings)) i;
      hashing = sym is.hashing i;
    }) ∙ sym (ample_rules g.plan)

-- so the bucket of a key is the same
pub bucket_same : (g : Going) (desk : Desk) (key : Key) → IsOf g desk →
    class_of desk.rules key ≡ bucket_for (ample g.plan) key
bucket_same g desk key is = ap (λ (r : Rules). class_of r key) (rules_same g desk is)

module _ (g : Going) (desk : Desk) (is : IsOf g desk) where
  seats_are : g.plan.settings.seats ≡ desk.settings.seats
  seats_are = ap (λ (s : Settings). s.seats) is.settings

  pub ample_seats_are : seats_of (ample g.plan) ≡ desk.settings.seats
  ample_seats_are = ample_seats g.plan ∙ seats_are

  depth_is : g.plan.settings.depth ≡ desk.settings.depth
  depth_is = ap (λ (s : Settings). s.depth) is.settings

  -- how many buckets there are
  pub buckets_are : buckets_of g.plan.settings ≡ 2 ^ desk.settings.depth
  buckets_are = ap (λ (d : ℕ). 2 ^ d) depth_is

  pub count_is : count_place (ample g.plan) ≡ desk.count
  count_is = omega (arith, ample_seats_are, desk.starts.count_is)

  pub items_start_is : items_start (ample g.plan) ≡ desk.count + 1
  items_start_is = omega (arith, ample_seats_are, desk.starts.count_is)

  most_is : most_words g.plan ≡ desk.row_words
  most_is =
      let items = ap (λ (s : Settings). s.items) (ample_settings g.plan ∙ is.settings) in
      omega (arith, items_start_is, items, desk.starts.words_are)

  pub bucket_at : (bucket : ℕ) → place g.plan (Bucket bucket) ≡ desk.buckets + bucket
  bucket_at bucket = omega (arith, seats_are, desk.starts.ops_are, desk.starts.buckets_are)

  pub row_at : (row i : ℕ) → place g.plan (RowWord row i) ≡ desk.first_row + row * desk.row_words + i
  row_at row i =
      let wide = ap (λ (w : ℕ). row * w) most_is in
      omega (arith, seats_are, buckets_are, wide, desk.starts.ops_are, desk.starts.buckets_are, desk.starts.rows_are)

  pub want_at : (seat : ℕ) → place g.plan (Want seat) ≡ desk.settings.seats + seat
  want_at seat = omega (arith, seats_are)

  pub hold_at : (seat : ℕ) → place g.plan (Hold seat) ≡ 2 * desk.settings.seats + seat
  hold_at seat = omega (arith, seats_are)

  pub op_at : (seat i : ℕ) → place g.plan (OpWord seat i) ≡ desk.ops + SLOT_WORDS * seat + i
  op_at seat i = omega (arith, seats_are, desk.starts.ops_are)

  pub op_starts : (seat start : ℕ) → g.seat ≡ seat → start ≡ desk.ops + SLOT_WORDS * seat →
      start ≡ place g.plan (OpWord g.seat 0)
  op_starts seat start same is = omega (arith, op_at g.seat 0, same, is)
