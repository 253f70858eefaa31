-- the places of pins
use Rattle.std.proofs.Common.{◌≡◌, ℕ, zero, suc, ◌==◌, Bool, true, false, not, ◌&&◌, ◌||◌, cond, List, [], ◌∷◌, ◌++◌, take, refl, sym}
use Rattle.std.specs.BTreeMap.{is_at}
use Rattle.std.specs.List.{list_any}
use Rattle.std.proofs.lemmas.Bool.{or_parts}
use Rattle.table_schema.specs.Key.{key_cmp}
use Rattle.table_schema.specs.declared.key.Key.{Key}
use Rattle.ref_counts.specs.declared.pin.Pin.{Pin}
use Rattle.ref_counts.specs.Kept.{HasKeptPlace, HavePlaces, Kept}
use Rattle.ref_counts.specs.Registered.{pins_but}

pub places-kept : (old new : Kept) → ((q : Key) → HasKeptPlace old q → HasKeptPlace new q) → (pins : List Pin) → HavePlaces old pins → HavePlaces new pins
places-kept old new f [] h = tt
places-kept old new f (p ∷ ps) h = (f p.user h.0, places-kept old new f ps h.1)

-- the place of a key that no pin is for may go
pub places-others : (k : Key) (old new : Kept) → ((q : Key) → is_at (key_cmp k) q ≡ false → HasKeptPlace old q → HasKeptPlace new q) → (pins : List Pin) → list_any (λ p. is_at (key_cmp k) p.user) pins ≡ false → HavePlaces old pins → HavePlaces new pins
places-others k old new f [] none h = tt
places-others k old new f (p ∷ ps) none h =
    let parts = or_parts (is_at (key_cmp k) p.user) (list_any (λ p. is_at (key_cmp k) p.user) ps) none in
    (f p.user parts.0 h.0, places-others k old new f ps parts.1 h.1)

pub places-push : (kept : Kept) (pins : List Pin) (p : Pin) → HavePlaces kept pins → HasKeptPlace kept p.user → HavePlaces kept (pins ++ p ∷ [])
places-push kept [] p h has = (has, tt)
places-push kept (q ∷ qs) p h has = (h.0, places-push kept qs p h.1 has)

pub places-take : (kept : Kept) (n : ℕ) (pins : List Pin) → HavePlaces kept pins → HavePlaces kept (take n pins)
places-take kept zero pins h = tt
places-take kept (suc n) [] h = tt
places-take kept (suc n) (p ∷ ps) h = (h.0, places-take kept n ps h.1)

pub places-but : (kept : Kept) (worker : ℕ) (pins : List Pin) → HavePlaces kept pins → HavePlaces kept (pins_but worker pins)
places-but kept worker [] h = tt
places-but kept worker (p ∷ ps) h =
    let rest = places-but kept worker ps h.1 in
    elim (not (p.worker == worker)) as (λ b. HavePlaces kept (cond b (p ∷ pins_but worker ps) (pins_but worker ps))) [ true ↦ (h.0, rest) | false ↦ rest ]

-- the place of a key may go, or stays where a pin is for it
pub places-end : (k : Key) (old new : Kept) (pins : List Pin) (b : Bool) → b ≡ list_any (λ p. is_at (key_cmp k) p.user) pins → (b ≡ true → (q : Key) → HasKeptPlace old q → HasKeptPlace new q) → ((q : Key) → is_at (key_cmp k) q ≡ false → HasKeptPlace old q → HasKeptPlace new q) → HavePlaces old pins → HavePlaces new pins
places-end k old new pins true is stays others h = places-kept old new (stays refl) pins h
places-end k old new pins false is stays others h = places-others k old new others pins (sym is) h

-- no other worker's pin is for the key
pub none-but : (k : Key) (worker : ℕ) (pins : List Pin) → list_any (λ p. not (p.worker == worker) && is_at (key_cmp k) p.user) pins ≡ false → list_any (λ p. is_at (key_cmp k) p.user) (pins_but worker pins) ≡ false
none-but k worker [] h = refl
none-but k worker (p ∷ ps) h =
    let rest = none-but k worker ps in
    elim (not (p.worker == worker)) as (λ b. ((b && is_at (key_cmp k) p.user) || list_any (λ p. not (p.worker == worker) && is_at (key_cmp k) p.user) ps) ≡ false → list_any (λ p. is_at (key_cmp k) p.user) (cond b (p ∷ pins_but worker ps) (pins_but worker ps)) ≡ false) [
      | true ↦ λ none. let parts = or_parts (is_at (key_cmp k) p.user) _ none in rw (parts.0, rest parts.1) refl
      | false ↦ λ none. rest none
    ] h
