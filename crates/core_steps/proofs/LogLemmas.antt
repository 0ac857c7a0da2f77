-- One list of a list of lists.
use Rattle.std.proofs.Common.{◌≡◌, ℕ, ◌<◌, List, [], map, length, get_or, set, sym, ap, ◌∙◌}
use Rattle.std.specs.Prelude.{Vec}
use Rattle.std.proofs.lemmas.List.{get_or-map, map-set, set-get_or}
use Rattle.std.proofs.Common.{Global}
use Rattle.plain_map.specs.declared.records.Record.{Record}

-- the items of each
abbrev pub all_items : List (Vec Record Global) → List (List Record)
all_items logs = map (λ (log : Vec Record Global). log.items) logs

-- those of one
pub own_items : (logs : List (Vec Record Global)) (seat : ℕ) (log : Vec Record Global) → seat < length logs →
    log ≡ get_or logs seat log → log.items ≡ get_or (all_items logs) seat []
own_items logs seat log h is =
    ap (λ (v : Vec Record Global). v.items) is
    ∙ sym (get_or-map (λ (v : Vec Record Global). v.items) logs seat log [] h)

-- where one becomes another
pub items_set : (logs : List (Vec Record Global)) (seat : ℕ) (log : Vec Record Global) (items : List Record) →
    log.items ≡ items → all_items (set logs seat log) ≡ set (all_items logs) seat items
items_set logs seat log items is =
    map-set (λ (v : Vec Record Global). v.items) logs seat log ∙ ap (set (all_items logs) seat) is

-- and stays as it was
pub items_same : (logs : List (Vec Record Global)) (seat : ℕ) (log after : Vec Record Global) → seat < length logs →
    log ≡ get_or logs seat log → after.items ≡ log.items → all_items (set logs seat after) ≡ all_items logs
items_same logs seat log after h is same =
    items_set logs seat after (get_or (all_items logs) seat []) (same ∙ own_items logs seat log h is)
    ∙ set-get_or (all_items logs) seat []
