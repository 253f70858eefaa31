-- what going over all rows comes to: the things of the desired view
use Rattle.std.proofs.Common.{◌≡◌, ◌⊎◌, inl, inr, ◌<◌, Bool, true, false, List, [], ◌∷◌, Option, None, Some, if◌then◌else◌, refl, sym, ap, subst, ◌∙◌, arith}
use Rattle.std.proofs.lemmas.Bool.{and_from, and_parts, false≢true}
use Rattle.std.specs.BTreeSet.{insert_key}
use Rattle.std.specs.List.{list_all}
use Rattle.std.specs.List.Sorted.{IsStrictlySortedBy}
use Rattle.std.specs.Map.{keys_of}
use Rattle.std.specs.Option.{is_some}
use Rattle.table_schema.specs.Fields.{Pairs}
use Rattle.table_schema.specs.Key.{key_cmp}
use Rattle.table_schema.specs.Names.{names_of}
use Rattle.table_schema.specs.Plan.{Ports}
use Rattle.table_schema.specs.Rows.{HasRisingRows, Rows, fields_at}
use Rattle.table_schema.specs.declared.key.Key.{Key}
use Rattle.table_schema.specs.declared.key.Key.TheVariants as key
use Rattle.table_schema.specs.declared.row.Row.{Row}
use Rattle.table_schema.proofs.Keys.{key_exact, key_total}
use Rattle.sai_types.specs.declared.thing.Thing.{Thing}
use Rattle.sai_types.specs.Alike.{IsIn}
use Rattle.sai_types.proofs.Rising.{in-back, in-insert, in-kept}
use Rattle.sai_types.specs.Order.{thing_cmp}
use Rattle.switch_model.specs.Desired.{IsThingOf, desired_view, have_rows, ready_rows, placed_things}
use Rattle.switch_model.specs.Good.{TypedRows, good_row, good_rows}
use Rattle.switch_model.specs.Levels.{level_of}
use Rattle.switch_model.specs.Placed.{place, router_in, router_of_row}
use Rattle.switch_model.specs.Things.{things_of}
use Rattle.switch_model.proofs.Levels.{first_lower, named_below}
use Rattle.switch_model.proofs.Ready.{IsClosed-ready, ready-there}
use Rattle.want_view.specs.Walk.{after_row, is_ready, walk, with_things}
use Rattle.want_view.proofs.Fixed.{ready_rows-fixed}
use Rattle.want_view.proofs.Found.{behind-greater, fields-in, in-ready, ready-in, row-found}
use Rattle.want_view.proofs.Among.{back-with, in-with, kept-with, rising-with}

module _ (plan : Ports) (rows : Rows) where
  abbrev good : TypedRows
  good = good_rows plan rows

  abbrev ready : TypedRows
  ready = ready_rows good

  -- of the ready rows those that are not to come have been gone over, and no other row
  pub record IsWalked (rest : Rows) (keys : List Key) (things : List Thing) : Type 0 where
    pub sound : (k : Key) → IsIn k keys → is_some (ready k) ≡ true
    pub whole : (k : Key) (r : Row) → ready k ≡ Some r → IsIn k keys ⊎ IsIn k (keys_of rest)
    pub of_rows : (t : Thing) → IsIn t things → IsThingOf plan ready t
    pub all : (k : Key) (r : Row) (t : Thing) → ready k ≡ Some r → IsIn t (placed_things plan ready k r) → IsIn t things ⊎ IsIn k (keys_of rest)
    pub rising : IsStrictlySortedBy thing_cmp things

  -- the rows that are to come rise, and each is the row of its key
  record AreToCome (rest : Rows) : Type 0 where
    pub rising : HasRisingRows rest
    pub at : (row : Key × Pairs) → IsIn row rest → fields_at rows row.0 ≡ Some row.1

  there : (keys : List Key) (ks : List Key) → ((k : Key) → IsIn k keys → is_some (ready k) ≡ true) → list_all (is_ready keys) ks ≡ true → have_rows ready ks ≡ true
  there keys [] sound h = refl
  there keys (k ∷ ks) sound h =
      let parts = and_parts (is_ready keys k) (list_all (is_ready keys) ks) h in
      and_from (is_some (ready k)) (have_rows ready ks) (sound k (ready-in keys k parts.0)) (there keys ks sound parts.1)

  all_ready : (keys : List Key) (ks : List Key) → ((k : Key) → IsIn k ks → IsIn k keys) → list_all (is_ready keys) ks ≡ true
  all_ready keys [] h = refl
  all_ready keys (k ∷ ks) h = and_from (is_ready keys k) (list_all (is_ready keys) ks) (in-ready keys k (h k (inl refl))) (all_ready keys ks (λ q g. h q (inr g)))

  some_row : (o : Option Row) → is_some o ≡ true → (r : Row) × (o ≡ Some r)
  some_row None h = cc
  some_row (Some r) h = (r, refl)

  each_has : (f : TypedRows) (ks : List Key) (k : Key) → have_rows f ks ≡ true → IsIn k ks → (r : Row) × (f k ≡ Some r)
  each_has f [] k h g = elim g [ ]
  each_has f (q ∷ qs) k h (inl same) = some_row (f k) (ap (λ z. is_some (f z)) same ∙ (and_parts (is_some (f q)) (have_rows f qs) h).0)
  each_has f (q ∷ qs) k h (inr g) = each_has f qs k (and_parts (is_some (f q)) (have_rows f qs) h).1 g

  -- the router of a ready address is that of its interface's good row, which is ready
  router-ready : (k : Key) (r : Row) → ready k ≡ Some r → router_in ready k ≡ router_in good k
  router-ready (key.Addr on ip len) r at =
      let found = each_has ready (key.Intf on ∷ []) (key.Intf on) (IsClosed-ready good (key.Addr on ip len) r at) (inl refl) in
      ap router_of_row (found.1 ∙ sym (ready-there good (key.Intf on) found.0 found.1))
  router-ready (key.Port port) r at = refl
  router-ready (key.Vlan vlan) r at = refl
  router-ready (key.Vrf n) r at = refl
  router-ready (key.Member vlan port) r at = refl
  router-ready (key.Intf on) r at = refl
  router-ready (key.Neigh on ip) r at = refl
  router-ready (key.Route v prefix) r at = refl
  router-ready (key.Other text) r at = refl

  -- the things that a row has where it is gone over
  abbrev of_row : Key → Row → List Thing
  of_row k r = things_of plan k (place (router_in good k) r)

  of-ready : (k : Key) (r : Row) → ready k ≡ Some r → placed_things plan ready k r ≡ of_row k r
  of-ready k r at = ap (λ v. things_of plan k (place v r)) (router-ready k r at)

  -- one row more, which is not ready
  passed : (e : Key × Pairs) (rest : Rows) (keys : List Key) (things : List Thing) → ((r : Row) → ready e.0 ≡ Some r → ⊥) → IsWalked (e ∷ rest) keys things → IsWalked rest keys things
  passed e rest keys things unready x = record {
    sound = x.sound;
    whole = λ k r h. later k r h (x.whole k r h);
    of_rows = x.of_rows;
    all = λ k r t h g. still k r t h (x.all k r t h g);
    rising = x.rising;
  }
    where
      later : (k : Key) (r : Row) → ready k ≡ Some r → IsIn k keys ⊎ IsIn k (e.0 ∷ keys_of rest) → IsIn k keys ⊎ IsIn k (keys_of rest)
      later k r h (inl g) = inl g
      later k r h (inr (inl same)) = absurd (unready r (ap ready (sym same) ∙ h))
      later k r h (inr (inr g)) = inr g

      still : (k : Key) (r : Row) (t : Thing) → ready k ≡ Some r → IsIn t things ⊎ IsIn k (e.0 ∷ keys_of rest) → IsIn t things ⊎ IsIn k (keys_of rest)
      still k r t h (inl g) = inl g
      still k r t h (inr (inl same)) = absurd (unready r (ap ready (sym same) ∙ h))
      still k r t h (inr (inr g)) = inr g

  -- one row more, which is ready
  added : (e : Key × Pairs) (rest : Rows) (keys : List Key) (things : List Thing) (r : Row) → ready e.0 ≡ Some r → IsWalked (e ∷ rest) keys things → IsWalked rest (insert_key key_cmp keys e.0) (with_things things (of_row e.0 r))
  added e rest keys things r at x = record {
    sound = λ k h. is_sound k (in-back key_cmp key_total key_exact keys e.0 k h);
    whole = λ k s h. later k (x.whole k s h);
    of_rows = λ t h. whose t (back-with things (of_row e.0 r) t h);
    all = λ k s t h g. still k s t h g (x.all k s t h g);
    rising = rising-with things (of_row e.0 r) x.rising;
  }
    where
      is_sound : (k : Key) → (k ≡ e.0) ⊎ IsIn k keys → is_some (ready k) ≡ true
      is_sound k (inl same) = ap (λ z. is_some (ready z)) same ∙ ap is_some at
      is_sound k (inr h) = x.sound k h

      later : (k : Key) → IsIn k keys ⊎ IsIn k (e.0 ∷ keys_of rest) → IsIn k (insert_key key_cmp keys e.0) ⊎ IsIn k (keys_of rest)
      later k (inl g) = inl (in-kept key_cmp key_total key_exact keys e.0 k g)
      later k (inr (inl same)) = inl (subst (λ z. IsIn z (insert_key key_cmp keys e.0)) (sym same) (in-insert key_cmp key_total key_exact keys e.0))
      later k (inr (inr g)) = inr g

      whose : (t : Thing) → IsIn t (of_row e.0 r) ⊎ IsIn t things → IsThingOf plan ready t
      whose t (inl h) = (e.0, r, at, subst (IsIn t) (sym (of-ready e.0 r at)) h)
      whose t (inr h) = x.of_rows t h

      still : (k : Key) (s : Row) (t : Thing) → ready k ≡ Some s → IsIn t (placed_things plan ready k s) → IsIn t things ⊎ IsIn k (e.0 ∷ keys_of rest) → IsIn t (with_things things (of_row e.0 r)) ⊎ IsIn k (keys_of rest)
      still k s t h g (inl i) = inl (kept-with things (of_row e.0 r) t i)
      still k s t h g (inr (inl same)) =
          let one : Some s ≡ Some r = sym h ∙ ap ready same ∙ at in
          let row_is : s ≡ r = cc in
          inl (in-with things (of_row e.0 r) t (subst (IsIn t) (of-ready e.0 r at) (subst (λ z. IsIn t (placed_things plan ready z r)) same (subst (λ z. IsIn t (placed_things plan ready k z)) row_is g))))
      still k s t h g (inr (inr i)) = inr i

  module _ (e : Key × Pairs) (rest : Rows) (come : AreToCome (e ∷ rest)) (keys : List Key) (things : List Thing) (x : IsWalked (e ∷ rest) keys things) where
    read : good e.0 ≡ good_row plan e.0 (Some e.1)
    read = ap (good_row plan e.0) (come.at e (inl refl))

    -- what a ready row names is ready and of a lower level, so it came before
    came : (r : Row) → ready e.0 ≡ Some r → list_all (is_ready keys) (names_of e.0 r) ≡ true
    came r at = all_ready keys (names_of e.0 r) (λ q h. before q h (each_has ready (names_of e.0 r) q (IsClosed-ready good e.0 r at) h))
      where
        not_later : (q : Key) → IsIn q (names_of e.0 r) → IsIn q (e.0 ∷ keys_of rest) → ⊥
        not_later q h (inl same) = absurd (omega (arith, subst (λ z. level_of z < level_of e.0) same (named_below e.0 r q h)))
        not_later q h (inr g) = absurd (omega (arith, named_below e.0 r q h, first_lower e.0 q (behind-greater rest e.0 q come.rising.0 g)))

        sought : (q : Key) → IsIn q (names_of e.0 r) → IsIn q keys ⊎ IsIn q (e.0 ∷ keys_of rest) → IsIn q keys
        sought q h (inl g) = g
        sought q h (inr g) = absurd (not_later q h g)

        before : (q : Key) → IsIn q (names_of e.0 r) → (s : Row) × (ready q ≡ Some s) → IsIn q keys
        before q h found = sought q h (x.whole q found.0 found.1)

    by_names : (r : Row) (b : Bool) → good e.0 ≡ Some r → list_all (is_ready keys) (names_of e.0 r) ≡ b
        → let next : List Key × List Thing = if b then (insert_key key_cmp keys e.0, with_things things (of_row e.0 r)) else (keys, things) in IsWalked rest next.0 next.1
    by_names r true at h = added e rest keys things r (ready_rows-fixed good e.0 r at (there keys (names_of e.0 r) x.sound h)) x
    by_names r false at h = passed e rest keys things (λ s is. unready s is) x
      where
        unready : (s : Row) → ready e.0 ≡ Some s → ⊥
        unready s is =
            let one : Some s ≡ Some r = sym (ready-there good e.0 s is) ∙ at in
            let same : s ≡ r = cc in
            false≢true (sym h ∙ came r (subst (λ z. ready e.0 ≡ Some z) same is))

    by_row : (o : Option Row) → good e.0 ≡ o → let next = after_row plan (router_in good e.0) e.0 o (keys, things) in IsWalked rest next.0 next.1
    by_row None none = passed e rest keys things (λ s is. unready s is) x
      where
        unready : (s : Row) → ready e.0 ≡ Some s → ⊥
        unready s is = let both : Some s ≡ None = sym (ready-there good e.0 s is) ∙ none in cc
    by_row (Some r) at = by_names r (list_all (is_ready keys) (names_of e.0 r)) at refl

    stepped : let next = after_row plan (router_in good e.0) e.0 (good_row plan e.0 (Some e.1)) (keys, things) in IsWalked rest next.0 next.1
    stepped = by_row (good_row plan e.0 (Some e.1)) read

  walked : (rest : Rows) → AreToCome rest → (keys : List Key) (things : List Thing) → IsWalked rest keys things → (last : List Key) × IsWalked [] last (walk plan good rest (keys, things)).1
  walked [] come keys things x = (keys, x)
  walked (e ∷ rest) come keys things x =
      let next = after_row plan (router_in good e.0) e.0 (good_row plan e.0 (Some e.1)) (keys, things) in
      walked rest (record { rising = come.rising.1; at = λ row h. come.at row (inr h) }) next.0 next.1 (stepped e rest come keys things x)

  has_key : (o : Option Pairs) (k : Key) (r : Row) → fields_at rows k ≡ o → good_row plan k o ≡ Some r → IsIn k (keys_of rows)
  has_key None k r e h = cc
  has_key (Some fields) k r e h = fields-in rows k fields e

  none_yet : IsWalked rows [] []
  unfolding IsStrictlySortedBy
  none_yet = record {
    sound = λ k h. elim h [ ];
    whole = λ k r h. inr (has_key (fields_at rows k) k r refl (ready-there good k r h));
    of_rows = λ t h. elim h [ ];
    all = λ k r t h g. inr (has_key (fields_at rows k) k r refl (ready-there good k r h));
    rising = tt;
  }

  pub all-walked : HasRisingRows rows → (last : List Key) × IsWalked [] last (walk plan good rows ([], [])).1
  all-walked rising = walked rows (record { rising = rising; at = λ row h. row-found rows row rising h }) [] [] none_yet

  pub walked-wanted : HasRisingRows rows → (t : Thing) → IsIn t (walk plan good rows ([], [])).1 → desired_view plan rows t
  walked-wanted rising t h = (all-walked rising).1.of_rows t h

  pub wanted-walked : HasRisingRows rows → (t : Thing) → desired_view plan rows t → IsIn t (walk plan good rows ([], [])).1
  wanted-walked rising t (k, r, at, h) = only ((all-walked rising).1.all k r t at h)
    where
      only : IsIn t (walk plan good rows ([], [])).1 ⊎ IsIn k (keys_of {K = Key} {X = Pairs} []) → IsIn t (walk plan good rows ([], [])).1
      only (inl g) = g
      only (inr g) = elim g [ ]

  pub walked-rising : HasRisingRows rows → IsStrictlySortedBy thing_cmp (walk plan good rows ([], [])).1
  walked-rising rising = (all-walked rising).1.rising
