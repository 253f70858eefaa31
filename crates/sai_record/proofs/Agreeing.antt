-- identifiers that are replaced alike in a call's list replace alike in the call
use Rattle.std.proofs.Common.{◌≡◌, ℕ, List, [], ◌∷◌, ◌++◌, Option, None, Some, option_map, refl, sym, ap, ap₂, ◌∙◌, subst, if◌then◌else◌}
use Rattle.std.specs.List.{AllByRecursion}
use Rattle.std.specs.Option.{is_some}
use Rattle.std.proofs.lemmas.List.{append-nil}
use Rattle.std.proofs.lemmas.Option.{none-some}
use Rattle.chip_layout.specs.Renamed.{attr_renamed, body_renamed, call_renamed, entry_renamed, on_renamed, to_renamed}
use Rattle.sai_types.specs.declared.ids.Rid.{Rid}
use Rattle.sai_types.specs.declared.body.Attr.{Attr}
use Rattle.sai_types.specs.declared.body.Attr.TheVariants as attr
use Rattle.sai_types.specs.declared.body.Body.{Body}
use Rattle.sai_types.specs.declared.body.Body.TheVariants as body
use Rattle.sai_types.specs.declared.body.Call.{Call}
use Rattle.sai_types.specs.declared.body.Call.TheVariants as call
use Rattle.sai_types.specs.declared.body.Entry.{Entry}
use Rattle.sai_types.specs.declared.body.Entry.TheVariants as entry
use Rattle.sai_types.specs.declared.body.RifOn.{RifOn}
use Rattle.sai_types.specs.declared.body.RifOn.TheVariants as on
use Rattle.sai_types.specs.declared.body.To.{To}
use Rattle.sai_types.specs.declared.body.To.TheVariants as to
use Rattle.sai_record.specs.Build.{Numbers, attr_ids, base_ids, body_ids, call_ids, entry_ids, first_unknown, number_at, target_ids}
use Rattle.sai_record.specs.declared.replaying.StopWhy.TheVariants as why

pub each-weaker : {A : Type 0} (P Q : A → Type 0) → ((x : A) → P x → Q x) → (xs : List A) → AllByRecursion P xs → AllByRecursion Q xs
each-weaker P Q f [] h = tt
each-weaker P Q f (x ∷ xs) h = (f x h.0, each-weaker P Q f xs h.1)

-- ---- by two replacements, or by one

module _ (f g h : Rid → Rid) where
  abbrev Agree : List Rid → Type 0
  Agree is = AllByRecursion (λ i. f i ≡ g (h i)) is

  base_agree : (b : RifOn Rid) → Agree (base_ids b) → on_renamed f b ≡ on_renamed g (on_renamed h b)
  base_agree (on.Port i) x = ap on.Port x.0
  base_agree (on.Vlan i) x = ap on.Vlan x.0

  target_agree : (t : To Rid) → Agree (target_ids t) → to_renamed f t ≡ to_renamed g (to_renamed h t)
  target_agree to.Drop x = refl
  target_agree (to.Rif i) x = ap to.Rif x.0
  target_agree (to.NextHop i) x = ap to.NextHop x.0
  target_agree (to.Group i) x = ap to.Group x.0

  body_agree : (b : Body Rid) → Agree (body_ids b) → body_renamed f b ≡ body_renamed g (body_renamed h b)
  body_agree (body.Port lanes speed mtu up) x = refl
  body_agree (body.Vlan vlan) x = refl
  body_agree (body.VirtualRouter label) x = refl
  body_agree (body.BridgePort port) x = ap body.BridgePort x.0
  body_agree (body.VlanMember vlan bridge_port tagging) (x, (y, u)) = ap₂ (λ i j. body.VlanMember i j tagging) x y
  body_agree (body.Rif None b) x = ap (body.Rif None) (base_agree b x)
  body_agree (body.Rif (Some vr) b) (x, y) = ap₂ (λ i c. body.Rif (Some i) c) x (base_agree b y)
  body_agree (body.OwnAddress None ip) x = refl
  body_agree (body.OwnAddress (Some vr) ip) x = ap (λ i. body.OwnAddress (Some i) ip) x.0
  body_agree (body.Neighbor rif ip mac) x = ap (λ i. body.Neighbor i ip mac) x.0
  body_agree (body.NextHop rif ip) x = ap (λ i. body.NextHop i ip) x.0
  body_agree body.Group x = refl
  body_agree (body.GroupMember group next_hop weight) (x, (y, u)) = ap₂ (λ i j. body.GroupMember i j weight) x y
  body_agree (body.Route None prefix t) x = ap (body.Route None prefix) (target_agree t x)
  body_agree (body.Route (Some vr) prefix t) (x, y) = ap₂ (λ i s. body.Route (Some i) prefix s) x (target_agree t y)

  entry_agree : (e : Entry Rid) (more : List Rid) → Agree (entry_ids e ++ more) → (entry_renamed f e ≡ entry_renamed g (entry_renamed h e)) × Agree more
  entry_agree (entry.Oid i) more (x, y) = (ap entry.Oid x, y)
  entry_agree (entry.Own None ip) more x = (refl, x)
  entry_agree (entry.Own (Some vr) ip) more (x, y) = (ap (λ i. entry.Own (Some i) ip) x, y)
  entry_agree (entry.Neigh rif ip) more (x, y) = (ap (λ i. entry.Neigh i ip) x, y)
  entry_agree (entry.Route None prefix) more x = (refl, x)
  entry_agree (entry.Route (Some vr) prefix) more (x, y) = (ap (λ i. entry.Route (Some i) prefix) x, y)

  attr_agree : (a : Attr Rid) → Agree (attr_ids a) → attr_renamed f a ≡ attr_renamed g (attr_renamed h a)
  attr_agree (attr.To t) x = ap attr.To (target_agree t x)
  attr_agree (attr.Speed s) x = refl
  attr_agree (attr.Mtu m) x = refl
  attr_agree (attr.Up u) x = refl
  attr_agree (attr.Tagging t) x = refl
  attr_agree (attr.Mac m) x = refl

  pub call-agree : (c : Call Rid) → Agree (call_ids c) → call_renamed f c ≡ call_renamed g (call_renamed h c)
  call-agree (call.Create b) x = ap call.Create (body_agree b x)
  call-agree (call.Set e a) x = let y = entry_agree e (attr_ids a) x in ap₂ (λ d z. call.Set d z) y.0 (attr_agree a y.1)
  call-agree (call.Remove e) x = ap call.Remove (entry_agree e [] (subst Agree (sym (append-nil (entry_ids e))) x)).0

-- ---- identifiers that stand for themselves

base_same : (b : RifOn Rid) → on_renamed (λ (i : Rid). i) b ≡ b
base_same (on.Port i) = refl
base_same (on.Vlan i) = refl

target_same : (t : To Rid) → to_renamed (λ (i : Rid). i) t ≡ t
target_same to.Drop = refl
target_same (to.Rif i) = refl
target_same (to.NextHop i) = refl
target_same (to.Group i) = refl

router_same : (v : Option Rid) → option_map (λ (i : Rid). i) v ≡ v
router_same None = refl
router_same (Some i) = refl

body_same : (b : Body Rid) → body_renamed (λ (i : Rid). i) b ≡ b
body_same (body.Rif vr b) = ap₂ (λ v c. body.Rif v c) (router_same vr) (base_same b)
body_same (body.OwnAddress vr ip) = ap (λ v. body.OwnAddress v ip) (router_same vr)
body_same (body.Route vr prefix t) = ap₂ (λ v s. body.Route v prefix s) (router_same vr) (target_same t)
body_same _ = refl

entry_same : (e : Entry Rid) → entry_renamed (λ (i : Rid). i) e ≡ e
entry_same (entry.Own vr ip) = ap (λ v. entry.Own v ip) (router_same vr)
entry_same (entry.Route vr prefix) = ap (λ v. entry.Route v prefix) (router_same vr)
entry_same _ = refl

attr_same : (a : Attr Rid) → attr_renamed (λ (i : Rid). i) a ≡ a
attr_same (attr.To t) = ap attr.To (target_same t)
attr_same _ = refl

unnamed : (c : Call Rid) → call_renamed (λ (i : Rid). i) c ≡ c
unnamed (call.Create b) = ap call.Create (body_same b)
unnamed (call.Set e a) = ap₂ (λ d z. call.Set d z) (entry_same e) (attr_same a)
unnamed (call.Remove e) = ap call.Remove (entry_same e)

pub call-same : (f : Rid → Rid) (c : Call Rid) → AllByRecursion (λ i. f i ≡ i) (call_ids c) → call_renamed f c ≡ c
call-same f c h = call-agree f (λ i. i) (λ i. i) c h ∙ unnamed (call_renamed (λ i. i) c) ∙ unnamed c

-- ---- identifiers that were made

abbrev pub IsNumbered : Numbers → Rid → Type 0
IsNumbered ns i = (n : ℕ) × (number_at ns i ≡ Some n)

pub all-numbered : (ns : Numbers) (is : List Rid) → first_unknown ns is ≡ None → AllByRecursion (IsNumbered ns) is
all-numbered ns [] h = tt
all-numbered ns (i ∷ is) h = by (all-numbered ns is) (number_at ns i) refl h
  where
    by : (first_unknown ns is ≡ None → AllByRecursion (IsNumbered ns) is) → (o : Option ℕ) → number_at ns i ≡ o → (if is_some o then first_unknown ns is else Some (why.UnknownId i.0)) ≡ None → AllByRecursion (IsNumbered ns) (i ∷ is)
    by rest None e x = absurd (none-some (why.UnknownId i.0) (sym x))
    by rest (Some n) e x = ((n, e), rest x)
