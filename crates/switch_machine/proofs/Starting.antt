-- the machine stays sound where an operation starts
use Rattle.std.proofs.Common.{◌≡◌, ◌⊎◌, ◌∙◌, inl, inr, ℕ, true, List, None, Some, option_map, refl, sym, ap, subst}
use Rattle.std.proofs.lemmas.Option.{same_Some}
use Rattle.swss_types.specs.declared.address.Ip.{Ip}
use Rattle.swss_types.specs.declared.interface.IfName.{IfName}
use Rattle.swss_types.specs.declared.vrf.Vrf.{Vrf}
use Rattle.table_schema.specs.Plan.{Ports}
use Rattle.table_schema.specs.declared.key.Key.{Key}
use Rattle.table_schema.specs.declared.key.Key.TheVariants as key
use Rattle.sai_types.specs.declared.thing.Thing.{Thing}
use Rattle.sai_types.specs.Alike.{IsIn}
use Rattle.row_layout.specs.Rows.{Owner}
use Rattle.row_layout.specs.Shared.{shared_things}
use Rattle.row_layout.specs.Operations.{Change, uses_of}
use Rattle.switch_machine.specs.Flights.{MachineBoard, CountsAsUser, Fits, MachineFlight, IsFirm, IsResting, IsRow, HasChangeOf, IsUser, Machine, Runs, StandsIn, goes_over}
use Rattle.switch_machine.specs.Steps.{Starts, started}
use Rattle.switch_model.specs.Placed as row
use Rattle.switch_model.specs.Placed.{Placed as Row, bare, placed_names as names_of}
use Rattle.switch_model.specs.Good.{TypedRows}
use Rattle.switch_machine.specs.Consistent.{IsCurrent, IsUsedOrRetired, IsOrderly, IsConsistent, WasUsed}
use Rattle.switch_machine.specs.Tables.{TableLaws}
use Rattle.switch_machine.proofs.Running.{no_retire, untouched, no_flight}
use Rattle.switch_machine.proofs.Ordered.{no_self_by}
use Rattle.switch_machine.proofs.Splits.{IsPut, IsSplit, New, Old, key_split, put_at, put_by, put_off, use_row_in}

module _ (plan : Ports) (tables : TableLaws plan) (m : Machine) (sound : IsConsistent plan m) (w : ℕ) (f : MachineFlight) (due : List Change) (starts : Starts plan m w f due) where
  abbrev later : Machine
  later = started m w f due

  abbrev b : MachineBoard
  b = m.board

  abbrev b' : MachineBoard
  b' = later.board

  by : (v : ℕ) (g : MachineFlight) → b'.flights v ≡ Some g → IsPut w v (Some f) b.flights (Some g)
  by v g h = put_by w v (Some f) b.flights (Some g) h

  apart : (v : ℕ) (g : MachineFlight) → b.flights v ≡ Some g → v ≡ w → ⊥
  apart v g there same = no_flight g (sym starts.idle ∙ ap b.flights (sym same) ∙ there)

  still : (v : ℕ) (g : MachineFlight) → b.flights v ≡ Some g → b'.flights v ≡ Some g
  still v g there = put_off w v (Some f) b.flights (apart v g there) ∙ there

  here : b'.flights w ≡ Some f
  here = put_at w w (Some f) b.flights refl

  row_was : (k : Key) (r : Row) → IsRow b' k r → IsRow b k r ⊎ ((f.key ≡ k) × (f.new ≡ Some r))
  row_was k r (inl h) = inl (inl h)
  row_was k r (inr (v, g, at, is, new)) = of (by v g at)
    where
      of : IsPut w v (Some f) b.flights (Some g) → IsRow b k r ⊎ ((f.key ≡ k) × (f.new ≡ Some r))
      of (New same e) = let one = same_Some f g e in inr (ap (λ (z : MachineFlight). z.key) one ∙ is, ap (λ (z : MachineFlight). z.new) one ∙ new)
      of (Old other there) = inl (inr (v, g, there, is, new))

  row_now : (k : Key) (r : Row) → IsRow b k r → IsRow b' k r
  row_now k r (inl h) = inl h
  row_now k r (inr (v, g, at, is, new)) = inr (v, g, still v g at, is, new)

  firm_now : (p : Key) → IsFirm b p → (f.key ≡ p → f.goes ≡ true → ⊥) → IsFirm b' p
  firm_now p firm mine = record {
    row = firm.row;
    applied = firm.applied;
    stays = λ v g at is none. of v g is none (by v g at);
  }
    where
      of : (v : ℕ) (g : MachineFlight) → g.key ≡ p → g.goes ≡ true → IsPut w v (Some f) b.flights (Some g) → ⊥
      of v g is none (New same e) = let one = same_Some f g e in mine (ap (λ (z : MachineFlight). z.key) one ∙ is) (ap (λ (z : MachineFlight). z.goes) one ∙ none)
      of v g is none (Old other there) = firm.stays v g there is none

  firm_was : (p : Key) → IsFirm b' p → IsFirm b p
  firm_was p firm = record { row = firm.row; applied = firm.applied; stays = λ v g at is none. firm.stays v g (still v g at) is none }

  rest_was : (k : Key) → IsResting b' k → IsResting b k
  rest_was k rests v g at is = rests v g (still v g at) is

  user_was : (k : Key) (o : Owner) → IsUser plan b' k o → IsUser plan b k o ⊎ ((f.key ≡ k) × IsIn o (uses_of plan f.key f.new))
  user_was k o (inr (rests, h)) = inl (inr (rest_was k rests, h))
  user_was k o (inl (v, g, at, is, counts)) = of (by v g at)
    where
      mine : f.key ≡ k → CountsAsUser plan f o → IsUser plan b k o ⊎ ((f.key ≡ k) × IsIn o (uses_of plan f.key f.new))
      mine same (inl h) = inr (same, h)
      mine same (inr h) = inl (inr (λ v g at e. starts.rests v g at (e ∙ sym same), subst (λ q. IsIn o (uses_of plan q (b.applied q))) same (starts.leaves o h).0))

      of : IsPut w v (Some f) b.flights (Some g) → IsUser plan b k o ⊎ ((f.key ≡ k) × IsIn o (uses_of plan f.key f.new))
      of (New same e) = let one = same_Some f g e in mine (ap (λ (z : MachineFlight). z.key) one ∙ is) (subst (λ z. CountsAsUser plan z o) (sym one) counts)
      of (Old other there) = inl (inl (v, g, there, is, counts))

  user_now : (k : Key) (o : Owner) → IsUser plan b k o → IsUser plan b' k o
  user_now k o (inl (v, g, at, is, counts)) = inl (v, g, still v g at, is, counts)
  user_now k o (inr (rests, h)) = of (key_split f.key k)
    where
      of : IsSplit f.key k → IsUser plan b' k o
      of (inl same) = inl (w, f, here, same, starts.covers o (subst (λ q. IsIn o (uses_of plan q (b.applied q))) (sym same) h))
      of (inr other) = inr (λ v g at is. rest v g is (by v g at), h)
        where
          rest : (v : ℕ) (g : MachineFlight) → g.key ≡ k → IsPut w v (Some f) b.flights (Some g) → ⊥
          rest v g is (New same e) = other (ap (λ (z : MachineFlight). z.key) (same_Some f g e) ∙ is)
          rest v g is (Old off there) = rests v g there is

  one_by : (u v : ℕ) (g h : MachineFlight) → g.key ≡ h.key → IsPut w u (Some f) b.flights (Some g) → IsPut w v (Some f) b.flights (Some h) → u ≡ v
  one_by u v g h same (New x _) (New y _) = x ∙ sym y
  one_by u v g h same (New x e) (Old y there) = absurd (starts.rests v h there (sym same ∙ sym (ap (λ (z : MachineFlight). z.key) (same_Some f g e))))
  one_by u v g h same (Old x there) (New y e) = absurd (starts.rests u g there (same ∙ sym (ap (λ (z : MachineFlight). z.key) (same_Some f h e))))
  one_by u v g h same (Old x there) (Old y at) = sound.board.one u v g h there at same

  named_by : (k p : Key) (r : Row) → IsIn p (names_of k r) → IsRow b k r ⊎ ((f.key ≡ k) × (f.new ≡ Some r)) → IsFirm b' p
  named_by k p r h (inl row) = firm_now p (sound.board.named k p r row h) (λ same none. starts.unnamed none k r row (subst (λ q. IsIn q (names_of k r)) (sym same) h))
  named_by k p r h (inr (is, new)) = firm_now p (starts.named p r new (subst (λ q. IsIn p (names_of q r)) (sym is) h)) (λ same none. no_self_by f.key p r (subst (λ q. IsIn p (names_of q r)) (sym is) h) (sym same))

  goes_by : (v : ℕ) (g : MachineFlight) → IsPut w v (Some f) b.flights (Some g) → g.goes ≡ goes_over g.key (b.applied g.key) g.new
  goes_by v g (New same e) = subst (λ (z : MachineFlight). z.goes ≡ goes_over z.key (b.applied z.key) z.new) (same_Some f g e) starts.goes
  goes_by v g (Old other there) = sound.board.goes v g there

  inside_by : (n : IfName) (ip : Ip) (len : ℕ) (v u : Vrf) → b.applied (key.Intf n) ≡ Some (row.Intf u) → IsRow b (key.Addr n ip len) (row.Addr v) ⊎ ((f.key ≡ key.Addr n ip len) × (f.new ≡ Some (row.Addr v))) → v ≡ u
  inside_by n ip len v u at (inl row) = sound.board.inside n ip len v u row at
  inside_by n ip len v u at (inr (is, new)) = starts.inside n ip len v u is new at

  -- a retiring operation was there before
  retired_was : (v : ℕ) (g : MachineFlight) (o : Owner) → g.retires ≡ Some o → IsPut w v (Some f) b.flights (Some g) → b.flights v ≡ Some g
  retired_was v g o h (New same e) = absurd (no_retire f.retires o starts.none (ap (λ (z : MachineFlight). z.retires) (same_Some f g e) ∙ h))
  retired_was v g o h (Old other there) = there

  leaves_by : (v : ℕ) (g : MachineFlight) (o : Owner) → g.leaves ≡ Some o → IsPut w v (Some f) b.flights (Some g) → WasUsed plan b.applied g.key o × (IsIn o (uses_of plan g.key g.new) → ⊥) × (g.retires ≡ None)
  leaves_by v g o h (Old other there) = sound.board.leaves v g o there h
  leaves_by v g o h (New same e) = subst (λ (z : MachineFlight). WasUsed plan b.applied z.key o × (IsIn o (uses_of plan z.key z.new) → ⊥) × (z.retires ≡ None)) (same_Some f g e) (mine (starts.leaves o (ap (λ (z : MachineFlight). z.leaves) (same_Some f g e) ∙ h)))
    where
      mine : IsIn o (uses_of plan f.key (b.applied f.key)) × (IsIn o (uses_of plan f.key f.new) → ⊥) → WasUsed plan b.applied f.key o × (IsIn o (uses_of plan f.key f.new) → ⊥) × (f.retires ≡ None)
      mine x = let r = use_row_in plan f.key (b.applied f.key) o x.0 in (record { row = r.0; was = r.1; used = r.2 }, x.1, starts.none)

  unused_by : (v : ℕ) (g : MachineFlight) (k : Key) (o : Owner) → b.flights v ≡ Some g → g.retires ≡ Some o → IsUser plan b k o ⊎ ((f.key ≡ k) × IsIn o (uses_of plan f.key f.new)) → ⊥
  unused_by v g k o there h (inl user) = sound.board.unused v g k o there h user
  unused_by v g k o there h (inr (is, mine)) = (starts.free o mine v g there).1 h

  orderly : IsOrderly plan b'
  orderly = record {
    one = λ u v g h at there same. one_by u v g h same (by u g at) (by v h there);
    fit = λ k r row. fit_by k r (row_was k r row);
    named = λ k p r row h. named_by k p r h (row_was k r row);
    goes = λ v g at. goes_by v g (by v g at);
    inside = λ n ip len v u is at. inside_by n ip len v u at (row_was (key.Addr n ip len) (row.Addr v) is);
    leaves = λ v g o at h. leaves_by v g o h (by v g at);
    left = λ v g o at h. sound.board.left v g o (retired_was v g o h (by v g at)) h;
    unused = λ v g k o at h user. unused_by v g k o (retired_was v g o h (by v g at)) h (user_was k o user);
    once = λ u v g h o at there x y. sound.board.once u v g h o (retired_was u g o x (by u g at)) (retired_was v h o y (by v h there)) x y;
  }
    where
      fit_by : (k : Key) (r : Row) → IsRow b k r ⊎ ((f.key ≡ k) × (f.new ≡ Some r)) → Fits plan k r
      fit_by k r (inl row) = sound.board.fit k r row
      fit_by k r (inr (is, new)) = subst (λ q. Fits plan q r) is (starts.fit r new)

  due_old : (v : ℕ) → (v ≡ w → ⊥) → later.due v ≡ m.due v
  due_old v other = put_off w v due m.due other

  due_new : (v : ℕ) → v ≡ w → later.due v ≡ due
  due_new v same = put_at w v due m.due same

  runs_by : (v : ℕ) (g : MachineFlight) → IsPut w v (Some f) b.flights (Some g) → Runs plan g (StandsIn m) (later.due v)
  runs_by v g (New same e) = subst (Runs plan g (StandsIn m)) (sym (due_new v same)) (subst (λ h. Runs plan h (StandsIn m) due) (same_Some f g e) starts.runs)
  runs_by v g (Old other there) = subst (Runs plan g (StandsIn m)) (sym (due_old v other)) (sound.runs v g there)

  held_now : (o : Owner) → IsUsedOrRetired plan b o → IsUsedOrRetired plan b' o
  held_now o (inl (k, user)) = inl (k, user_now k o user)
  held_now o (inr (v, g, at, h)) = inr (v, g, still v g at, h)

  whole_by : (k : Key) (o : Owner) (u : Thing) → ((v : ℕ) (g : MachineFlight) → b'.flights v ≡ Some g → HasChangeOf plan (later.due v) o → ⊥) → IsIn u (shared_things o) → IsUser plan b k o ⊎ ((f.key ≡ k) × IsIn o (uses_of plan f.key f.new)) → StandsIn m u
  whole_by k o u quiet h (inl user) = sound.whole k o u user (λ v g at t. quiet v g (still v g at) (subst (λ d. HasChangeOf plan d o) (sym (due_old v (apart v g at))) t)) h
  whole_by k o u quiet h (inr (is, mine)) =
      (untouched plan tables f starts.fit (StandsIn m) due o (inr (inl mine)) (λ t. quiet w f here (subst (λ d. HasChangeOf plan d o) (sym (due_new w refl)) t)) starts.runs u (tables.shared o u h)).1 (inr (o, mine, h))

  quiet_by : (v : ℕ) (g : MachineFlight) (k : Key) (o : Owner) → HasChangeOf plan (later.due v) o → IsPut w v (Some f) b.flights (Some g) → IsUser plan b k o ⊎ ((f.key ≡ k) × IsIn o (uses_of plan f.key f.new)) → k ≡ g.key
  quiet_by v g k o t (New same e) (inl user) = starts.alone k o (subst (λ d. HasChangeOf plan d o) (due_new v same) t) user ∙ ap (λ (z : MachineFlight). z.key) (same_Some f g e)
  quiet_by v g k o t (New same e) (inr (is, mine)) = sym is ∙ ap (λ (z : MachineFlight). z.key) (same_Some f g e)
  quiet_by v g k o t (Old other there) (inl user) = sound.quiet v g k o there (subst (λ d. HasChangeOf plan d o) (due_old v other) t) user
  quiet_by v g k o t (Old other there) (inr (is, mine)) = absurd ((starts.free o mine v g there).0 (subst (λ d. HasChangeOf plan d o) (due_old v other) t))

  -- keys have their good rows as before, and this one is brought there
  pub current-started : (good : TypedRows) (k : Key) → option_map bare f.new ≡ good f.key → IsCurrent b good k ⊎ (k ≡ f.key) → IsCurrent b' good k
  current-started good k new (inr same) = inr (w, f, here, sym same, new ∙ ap good (sym same))
  current-started good k new (inl (inr (v, g, at, is, that))) = inr (v, g, still v g at, is, that)
  current-started good k new (inl (inl (rests, that))) = of (key_split f.key k)
    where
      of : IsSplit f.key k → IsCurrent b' good k
      of (inl same) = inr (w, f, here, same, new ∙ ap good same)
      of (inr other) = inl ((λ v g at is. rest v g is (by v g at)), that)
        where
          rest : (v : ℕ) (g : MachineFlight) → g.key ≡ k → IsPut w v (Some f) b.flights (Some g) → ⊥
          rest v g is (New same e) = other (ap (λ (z : MachineFlight). z.key) (same_Some f g e) ∙ is)
          rest v g is (Old off there) = rests v g there is

  pub sound-started : IsConsistent plan later
  sound-started = record {
    board = orderly;
    owned = sound.owned;
    rest = λ k u rests is. sound.rest k u (rest_was k rests) is;
    runs = λ v g at. runs_by v g (by v g at);
    present = λ k n firm h. sound.present k n (firm_was k firm) h;
    like = λ k u h is. let x = sound.like k u h is in record { row = x.row; is = row_now k x.row x.is; thing = x.thing; of = x.of; resembles = x.resembles };
    held = λ o u h is shared. let x = sound.held o u h is shared in (x.0, held_now o x.1);
    used = λ k o u n h is refers of shared. user_now k o (sound.used k o u n h is refers of shared);
    steady = sound.steady;
    whole = λ k o u user quiet h. whole_by k o u quiet h (user_was k o user);
    quiet = λ v g k o at t user. quiet_by v g k o t (by v g at) (user_was k o user);
  }
