-- the machine stays sound where an operation ends
use Rattle.std.proofs.Common.{◌≡◌, ◌∙◌, inl, inr, ℕ, Bool, true, false, not, [], Option, None, Some, option_map, refl, sym, ap, ap₂, subst}
use Rattle.std.proofs.lemmas.Option.{same_Some}
use Rattle.swss_types.specs.declared.address.Ip.{Ip}
use Rattle.swss_types.specs.declared.interface.IfName.{IfName}
use Rattle.swss_types.specs.declared.vrf.Vrf.{Vrf}
use Rattle.swss_types.specs.Vrf.{same_vrf}
use Rattle.table_schema.specs.Plan.{Ports}
use Rattle.table_schema.specs.declared.key.Key.{Key}
use Rattle.table_schema.specs.declared.key.Key.TheVariants as key
use Rattle.swss_types.proofs.Routers.{vrf-exact}
use Rattle.sai_types.specs.declared.thing.Thing.{Thing}
use Rattle.sai_types.specs.Alike.{IsIn}
use Rattle.sai_types.specs.Names.{ThingName, name_of}
use Rattle.row_layout.specs.Rows.{Owner, OfRow, own_things}
use Rattle.switch_machine.specs.Flights.{MachineBoard, CountsAsUser, Fits, MachineFlight, HasName, IsFinal, IsFirm, IsOwnedBy, IsResting, IsRow, IsShared, HasChangeOf, IsUser, Machine, Runs, StandsIn, goes_over, own_names, own_of}
use Rattle.row_layout.specs.Operations.{uses_of}
use Rattle.switch_machine.specs.Steps.{Ends, finished}
use Rattle.switch_model.specs.Placed as row
use Rattle.switch_model.specs.Placed.{Placed as Row, bare}
use Rattle.switch_model.specs.Good.{TypedRows}
use Rattle.switch_machine.specs.Consistent.{IsCurrent, IsUsedOrRetired, IsLike, IsOrderly, IsConsistent, WasUsed}
use Rattle.switch_machine.specs.Tables.{TableLaws}
use Rattle.switch_machine.proofs.Running.{no_retire, own_row, resembles_self, shared_of, no_flight}
use Rattle.switch_machine.proofs.Moving.{fit_of}
use Rattle.switch_machine.proofs.Leaving.{no_change}
use Rattle.switch_machine.proofs.Splits.{IsPut, IsSplit, New, Old, key_split, nat_split, put_by, put_off, row_at, row_off}

module _ (plan : Ports) (tables : TableLaws plan) (m : Machine) (sound : IsConsistent plan m) (w : ℕ) (f : MachineFlight) (ends : Ends m w f) where
  abbrev b : MachineBoard
  b = m.board

  abbrev later : Machine
  later = finished m w f

  abbrev b' : MachineBoard
  b' = later.board

  fits : (r : Row) → f.new ≡ Some r → Fits plan f.key r
  fits = fit_of plan tables m sound w f ends.flying

  runs_done : Runs plan f (StandsIn m) []
  runs_done = subst (Runs plan f (StandsIn m)) ends.done (sound.runs w f ends.flying)

  applied_new : (k : Key) → f.key ≡ k → b'.applied k ≡ f.new
  applied_new k same = row_at f.key k f.new b.applied same

  applied_old : (k : Key) → (f.key ≡ k → ⊥) → b'.applied k ≡ b.applied k
  applied_old k other = row_off f.key k f.new b.applied other

  -- an operation that is left was there
  data Flew (v : ℕ) (g : MachineFlight) : Type 0 where
    Flown : (v ≡ w → ⊥) → b.flights v ≡ Some g → Flew v g

  flew : (v : ℕ) (g : MachineFlight) → b'.flights v ≡ Some g → Flew v g
  flew v g h = of (put_by w v None b.flights (Some g) h)
    where
      of : IsPut w v None b.flights (Some g) → Flew v g
      of (New same e) = absurd (no_flight g e)
      of (Old other there) = Flown other there

  there_by : (v : ℕ) (g : MachineFlight) → b'.flights v ≡ Some g → b.flights v ≡ Some g
  there_by v g h = of (flew v g h)
    where
      of : Flew v g → b.flights v ≡ Some g
      of (Flown other there) = there

  -- one that was there has ended, or is left
  data Goes (v : ℕ) (g : MachineFlight) : Type 0 where
    Ended : v ≡ w → f ≡ g → Goes v g
    Stays : (v ≡ w → ⊥) → b'.flights v ≡ Some g → Goes v g

  goes : (v : ℕ) (g : MachineFlight) → b.flights v ≡ Some g → Goes v g
  goes v g h = of (nat_split v w)
    where
      of : IsSplit v w → Goes v g
      of (inl same) = Ended same (same_Some f g (sym ends.flying ∙ ap b.flights (sym same) ∙ h))
      of (inr other) = Stays other (put_off w v None b.flights other ∙ h)

  -- no other operation has the key
  other_key : (v : ℕ) (g : MachineFlight) → b'.flights v ≡ Some g → f.key ≡ g.key → ⊥
  other_key v g h same = of (flew v g h)
    where
      of : Flew v g → ⊥
      of (Flown other there) = other (sound.board.one v w g f there ends.flying (sym same))

  row_was : (k : Key) (r : Row) → IsRow b' k r → IsRow b k r
  row_was k r (inr (v, g, at, is, new)) = inr (v, g, there_by v g at, is, new)
  row_was k r (inl h) = of (key_split f.key k)
    where
      of : IsSplit f.key k → IsRow b k r
      of (inl same) = inr (w, f, ends.flying, same, sym (applied_new k same) ∙ h)
      of (inr other) = inl (sym (applied_old k other) ∙ h)

  row_new : (k : Key) (r : Row) → f.key ≡ k → f.new ≡ Some r → IsRow b' k r
  row_new k r same new = inl (applied_new k same ∙ new)

  row_now : (k : Key) (r : Row) → (f.key ≡ k → ⊥) → IsRow b k r → IsRow b' k r
  row_now k r other (inl h) = inl (applied_old k other ∙ h)
  row_now k r other (inr (v, g, at, is, new)) = of (goes v g at)
    where
      of : Goes v g → IsRow b' k r
      of (Ended same e) = absurd (other (ap (λ (z : MachineFlight). z.key) e ∙ is))
      of (Stays apart there) = inr (v, g, there, is, new)

  some_new : (o : Option Row) → (o ≡ None → ⊥) → (r : Row) × (o ≡ Some r)
  some_new None never = absurd (never refl)
  some_new (Some r) never = (r, refl)

  firm_now : (p : Key) → IsFirm b p → IsFirm b' p
  firm_now p firm = of (key_split f.key p)
    where
      of : IsSplit f.key p → IsFirm b' p
      of (inl same) =
          let r = some_new f.new (λ none. firm.stays w f ends.flying same (sound.board.goes w f ends.flying ∙ ap (goes_over f.key (b.applied f.key)) none)) in
          record { row = r.0; applied = applied_new p same ∙ r.1; stays = λ v g at is none. firm.stays v g (there_by v g at) is none }
      of (inr other) = record { row = firm.row; applied = applied_old p other ∙ firm.applied; stays = λ v g at is none. firm.stays v g (there_by v g at) is none }

  firm_was : (p : Key) → (f.key ≡ p → ⊥) → IsFirm b' p → IsFirm b p
  firm_was p other firm = record { row = firm.row; applied = sym (applied_old p other) ∙ firm.applied; stays = λ v g at is none. of v g is none (goes v g at) }
    where
      of : (v : ℕ) (g : MachineFlight) → g.key ≡ p → g.goes ≡ true → Goes v g → ⊥
      of v g is none (Ended same e) = other (ap (λ (z : MachineFlight). z.key) e ∙ is)
      of v g is none (Stays apart there) = firm.stays v g there is none

  rest_was : (k : Key) → (f.key ≡ k → ⊥) → IsResting b' k → IsResting b k
  rest_was k other rests v g at is = of (goes v g at)
    where
      of : Goes v g → ⊥
      of (Ended same e) = other (ap (λ (z : MachineFlight). z.key) e ∙ is)
      of (Stays apart there) = rests v g there is

  rest_now : (k : Key) → IsResting b k → IsResting b' k
  rest_now k rests v g at is = rests v g (there_by v g at) is

  rest_mine : IsResting b' f.key
  rest_mine v g at is = other_key v g at (sym is)

  user_was : (k : Key) (o : Owner) → IsUser plan b' k o → IsUser plan b k o
  user_was k o (inl (v, g, at, is, counts)) = inl (v, g, there_by v g at, is, counts)
  user_was k o (inr (rests, h)) = of (key_split f.key k)
    where
      of : IsSplit f.key k → IsUser plan b k o
      of (inl same) = inl (w, f, ends.flying, same, inl (subst (λ q. IsIn o (uses_of plan q f.new)) (sym same) (subst (λ z. IsIn o (uses_of plan k z)) (applied_new k same) h)))
      of (inr other) = inr (rest_was k other rests, subst (λ z. IsIn o (uses_of plan k z)) (applied_old k other) h)

  user_new : (k : Key) (o : Owner) → f.key ≡ k → IsIn o (uses_of plan f.key f.new) → IsUser plan b' k o
  user_new k o same h = inr (subst (IsResting b') same rest_mine, subst (λ z. IsIn o (uses_of plan k z)) (sym (applied_new k same)) (subst (λ q. IsIn o (uses_of plan q f.new)) same h))

  user_now : (k : Key) (o : Owner) → IsUser plan b k o → IsUser plan b' k o
  user_now k o (inr (rests, h)) = inr (rest_now k rests, subst (λ z. IsIn o (uses_of plan k z)) (sym (applied_old k (rests w f ends.flying))) h)
  user_now k o (inl (v, g, at, is, counts)) = of (goes v g at)
    where
      mine : f.key ≡ k → CountsAsUser plan f o → IsUser plan b' k o
      mine same (inl h) = user_new k o same h
      mine same (inr h) = absurd (no_retire f.leaves o ends.left h)

      of : Goes v g → IsUser plan b' k o
      of (Ended same e) = mine (ap (λ (z : MachineFlight). z.key) e ∙ is) (subst (λ z. CountsAsUser plan z o) (sym e) counts)
      of (Stays other there) = inl (v, g, there, is, counts)

  was_used : (v : ℕ) (g : MachineFlight) (o : Owner) → b'.flights v ≡ Some g → WasUsed plan b.applied g.key o → WasUsed plan b'.applied g.key o
  was_used v g o at was = record { row = was.row; was = applied_old g.key (other_key v g at) ∙ was.was; used = was.used }

  one_by : (u v : ℕ) (g h : MachineFlight) → b'.flights u ≡ Some g → b'.flights v ≡ Some h → g.key ≡ h.key → u ≡ v
  one_by u v g h at there same = sound.board.one u v g h (there_by u g at) (there_by v h there) same

  -- an interface that addresses are on has stayed in its router
  stays_in : (n : IfName) (ip : Ip) (len : ℕ) (v u : Vrf) (firm : Row) → IsRow b (key.Addr n ip len) (row.Addr v) → f.key ≡ key.Intf n → b.applied (key.Intf n) ≡ Some firm → Fits plan (key.Intf n) firm → f.new ≡ Some (row.Intf u) → (f.goes ≡ true → ⊥) → v ≡ u
  stays_in n ip len v u (row.Intf x) is same at fit new stays = sound.board.inside n ip len v x is at ∙ by (same_vrf x u) refl
    where
      told : f.goes ≡ not (same_vrf x u)
      told = sound.board.goes w f ends.flying ∙ ap (λ z. goes_over z (b.applied z) f.new) same ∙ ap₂ (goes_over (key.Intf n)) at new

      by : (t : Bool) → same_vrf x u ≡ t → x ≡ u
      by true e = vrf-exact x u e
      by false e = absurd (stays (told ∙ ap not e))
  stays_in n ip len v u _ is same at fit new stays = elim fit [ ]

  inside_by : (n : IfName) (ip : Ip) (len : ℕ) (v u : Vrf) → IsRow b (key.Addr n ip len) (row.Addr v) → b'.applied (key.Intf n) ≡ Some (row.Intf u) → IsSplit f.key (key.Intf n) → v ≡ u
  inside_by n ip len v u is at (inr other) = sound.board.inside n ip len v u is (sym (applied_old (key.Intf n) other) ∙ at)
  inside_by n ip len v u is at (inl same) =
      let firm = sound.board.named (key.Addr n ip len) (key.Intf n) (row.Addr v) is (inl refl) in
      stays_in n ip len v u firm.row is same firm.applied (sound.board.fit (key.Intf n) firm.row (inl firm.applied)) (sym (applied_new (key.Intf n) same) ∙ at) (firm.stays w f ends.flying same)

  orderly : IsOrderly plan b'
  orderly = record {
    one = one_by;
    fit = λ k r row. sound.board.fit k r (row_was k r row);
    named = λ k p r row h. firm_now p (sound.board.named k p r (row_was k r row) h);
    goes = λ v g at. sound.board.goes v g (there_by v g at) ∙ ap (λ z. goes_over g.key z g.new) (sym (applied_old g.key (other_key v g at)));
    inside = λ n ip len v u is at. inside_by n ip len v u (row_was (key.Addr n ip len) (row.Addr v) is) at (key_split f.key (key.Intf n));
    leaves = λ v g o at h. let x = sound.board.leaves v g o (there_by v g at) h in (was_used v g o at x.0, x.1, x.2);
    left = λ v g o at h. was_used v g o at (sound.board.left v g o (there_by v g at) h);
    unused = λ v g k o at h user. sound.board.unused v g k o (there_by v g at) h (user_was k o user);
    once = λ u v g h o at there x y. sound.board.once u v g h o (there_by u g at) (there_by v h there) x y;
  }

  -- of the key that ends, the things of its new row stand
  own_done : (k : Key) (u : Thing) → f.key ≡ k → IsOwnedBy plan (name_of u) (OfRow k) → StandsIn m u → IsFinal plan f u
  own_done k u same is h = (runs_done u (OfRow k, is, inl (ap OfRow (sym same)))).0 h

  rest_by : (k : Key) (u : Thing) → IsResting b' k → IsOwnedBy plan (name_of u) (OfRow k) → IsSplit f.key k → (StandsIn m u → IsIn u (own_of plan k (b'.applied k))) × (IsIn u (own_of plan k (b'.applied k)) → StandsIn m u)
  rest_by k u rests is (inr other) = subst (λ z. (StandsIn m u → IsIn u (own_of plan k z)) × (IsIn u (own_of plan k z) → StandsIn m u)) (sym (applied_old k other)) (sound.rest k u (rest_was k other rests) is)
  rest_by k u rests is (inl same) = subst (λ z. (StandsIn m u → IsIn u (own_of plan k z)) × (IsIn u (own_of plan k z) → StandsIn m u)) (sym (applied_new k same)) (into, back)
    where
      into : StandsIn m u → IsIn u (own_of plan k f.new)
      into h = let r = own_row plan tables f fits u k is (own_done k u same is h) in subst (λ z. IsIn u (own_of plan k z)) (sym r.1) r.3

      back : IsIn u (own_of plan k f.new) → StandsIn m u
      back h = (runs_done u (OfRow k, is, inl (ap OfRow (sym same)))).1 (inl (subst (λ q. IsIn u (own_of plan q f.new)) (sym same) h))

  present_by : (k : Key) (n : ThingName) → IsFirm b' k → IsIn n (own_names plan k) → IsSplit f.key k → HasName (StandsIn m) n
  present_by k n firm h (inr other) = sound.present k n (firm_was k other firm) h
  present_by k n firm h (inl same) =
      let new : f.new ≡ Some firm.row = sym (applied_new k same) ∙ firm.applied in
      let t = tables.names k firm.row n (subst (λ q. Fits plan q firm.row) same (fits firm.row new)) h in
      let is = tables.own k firm.row t.0 (subst (λ q. Fits plan q firm.row) same (fits firm.row new)) t.1 in
      let at : IsIn t.0 (own_of plan f.key f.new) = subst (λ z. IsIn t.0 (own_of plan f.key z)) (sym new) (subst (λ q. IsIn t.0 (own_things plan q firm.row)) (sym same) t.1) in
      (t.0, (runs_done t.0 (OfRow k, is, inl (ap OfRow (sym same)))).1 (inl at), t.2)

  like_by : (k : Key) (u : Thing) → StandsIn m u → IsOwnedBy plan (name_of u) (OfRow k) → IsSplit f.key k → IsLike plan b' k u
  like_by k u h is (inr other) = let x = sound.like k u h is in record { row = x.row; is = row_now k x.row other x.is; thing = x.thing; of = x.of; resembles = x.resembles }
  like_by k u h is (inl same) =
      let r = own_row plan tables f fits u k is (own_done k u same is h) in
      record { row = r.0; is = row_new k r.0 same r.1; thing = u; of = r.3; resembles = resembles_self u }

  held_by : (o : Owner) (u : Thing) → StandsIn m u → IsOwnedBy plan (name_of u) o → IsShared o → IsUsedOrRetired plan b o → IsUsedOrRetired plan b' o
  held_by o u h is shared (inl (k, user)) = inl (k, user_now k o user)
  held_by o u h is shared (inr (v, g, at, retires)) = of (goes v g at)
    where
      of : Goes v g → IsUsedOrRetired plan b' o
      of (Stays other there) = inr (v, g, there, retires)
      of (Ended same e) =
          let mine : f.retires ≡ Some o = ap (λ (z : MachineFlight). z.retires) e ∙ retires in
          let final = (runs_done u (o, is, inr (inr mine))).0 h in
          inl (f.key, user_new f.key o refl (shared_of plan tables f fits u o is shared final).0)

  still_quiet : (o : Owner) → ((v : ℕ) (g : MachineFlight) → b'.flights v ≡ Some g → HasChangeOf plan (later.due v) o → ⊥) → (v : ℕ) (g : MachineFlight) → HasChangeOf plan (m.due v) o → Goes v g → ⊥
  still_quiet o quiet v g t (Ended same e) = no_change t.0 (m.due v) t.1 (ap m.due same ∙ ends.done)
  still_quiet o quiet v g t (Stays other there) = quiet v g there t

  pub current-ended : (good : TypedRows) (k : Key) → IsCurrent b good k → IsCurrent b' good k
  current-ended good k (inl (rests, that)) = inl (rest_now k rests, ap (option_map bare) (applied_old k (rests w f ends.flying)) ∙ that)
  current-ended good k (inr (v, g, at, is, that)) = of (goes v g at)
    where
      of : Goes v g → IsCurrent b' good k
      of (Ended same e) =
          let here : f.key ≡ k = ap (λ (z : MachineFlight). z.key) e ∙ is in
          inl (subst (IsResting b') here rest_mine, ap (option_map bare) (applied_new k here ∙ ap (λ (z : MachineFlight). z.new) e) ∙ that)
      of (Stays other there) = inr (v, g, there, is, that)

  pub sound-ended : IsConsistent plan later
  sound-ended = record {
    board = orderly;
    owned = sound.owned;
    rest = λ k u rests is. rest_by k u rests is (key_split f.key k);
    runs = λ v g at. sound.runs v g (there_by v g at);
    present = λ k n firm h. present_by k n firm h (key_split f.key k);
    like = λ k u h is. like_by k u h is (key_split f.key k);
    held = λ o u h is shared. let x = sound.held o u h is shared in (x.0, held_by o u h is shared x.1);
    used = λ k o u n h is refers of shared. user_now k o (sound.used k o u n h is refers of shared);
    steady = sound.steady;
    whole = λ k o u user quiet h. sound.whole k o u (user_was k o user) (λ v g at t. still_quiet o quiet v g t (goes v g at)) h;
    quiet = λ v g k o at t user. sound.quiet v g k o (there_by v g at) t (user_was k o user);
  }
