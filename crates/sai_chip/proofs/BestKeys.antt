-- the best of the keys of routes, table by table
use Rattle.std.proofs.Common.{◌≡◌, ◌&&◌, nat_lt, true, false, cond, List, [], ◌∷◌, ◌++◌, Option, None, Some, option_map, refl, sym, ap, ◌∙◌, arith}
use Rattle.std.proofs.lemmas.Grind.{common_steps}
use Rattle.swss_types.specs.Address.{covers}
use Rattle.swss_types.specs.declared.address.Prefix.{Prefix}
use Rattle.swss_types.specs.declared.vrf.Packet.{Packet}
use Rattle.sai_types.specs.declared.ids.Rid.{Rid}
use Rattle.sai_types.specs.Named.{router_at}
use Rattle.sai_types.specs.Objects.{Objects}
use Rattle.lpm_table.specs.Longest.{best_prefix}
use Rattle.lpm_table.specs.Longest as table
use Rattle.sai_chip.specs.Bodies.{RouteKey, is_router}
use Rattle.sai_chip.specs.Tables.{best_key, covering, keyed, prefix_keys, longer_key}

abbrev key : Option Rid → Prefix → RouteKey
key vr p = (vr, p)

longer_three : (a b c : RouteKey) → longer_key (longer_key (Some a) (Some b)) (Some c) ≡ longer_key (Some a) (longer_key (Some b) (Some c))
longer_three a b c = grind (arith, common_steps)

longer_none : (x : Option RouteKey) → longer_key x None ≡ x
longer_none None = refl
longer_none (Some a) = refl

pub longer_past : (x y z : Option RouteKey) → longer_key (longer_key x y) z ≡ longer_key x (longer_key y z)
longer_past None y z = refl
longer_past (Some a) None z = refl
longer_past (Some a) (Some b) None = longer_none (longer_key (Some a) (Some b))
longer_past (Some a) (Some b) (Some c) = longer_three a b c

module _ (objects : Objects) (a : Packet) where
  best_append : (xs ys : List RouteKey) → best_key objects a (xs ++ ys) ≡ longer_key (best_key objects a xs) (best_key objects a ys)
  best_append [] ys = refl
  best_append (x ∷ xs) ys = ap (longer_key (covering objects a x)) (best_append xs ys) ∙ sym (longer_past (covering objects a x) (best_key objects a xs) (best_key objects a ys))

  keyed_longer : (vr : Option Rid) (p : Prefix) (o : Option Prefix) → longer_key (Some (key vr p)) (option_map (key vr) o) ≡ option_map (key vr) (table.the_longer p o)
  keyed_longer vr p None = refl
  keyed_longer vr p (Some q) = elim (nat_lt p.len q.len) as (λ t. cond t (Some (key vr q)) (Some (key vr p)) ≡ option_map (key vr) (cond t (Some q) (Some p))) [ true ↦ refl | false ↦ refl ]

  -- in a router that is the packet's, the best of its table; in another, none
  best_here : (vr : Option Rid) (ps : List Prefix) → is_router a.vrf (router_at objects vr) ≡ true → best_key objects a (prefix_keys vr ps) ≡ option_map (key vr) (best_prefix ps a.to)
  best_here vr [] here = refl
  best_here vr (p ∷ ps) here =
      ap (λ b. longer_key (cond (b && covers p a.to) (Some (key vr p)) None) (best_key objects a (prefix_keys vr ps))) here
      ∙ ap (longer_key (cond (covers p a.to) (Some (key vr p)) None)) (best_here vr ps here)
      ∙ elim (covers p a.to) as (λ t. longer_key (cond t (Some (key vr p)) None) (option_map (key vr) (best_prefix ps a.to)) ≡ option_map (key vr) (cond t (table.the_longer p (best_prefix ps a.to)) (best_prefix ps a.to))) [ true ↦ keyed_longer vr p (best_prefix ps a.to) | false ↦ refl ]

  best_elsewhere : (vr : Option Rid) (ps : List Prefix) → is_router a.vrf (router_at objects vr) ≡ false → best_key objects a (prefix_keys vr ps) ≡ None
  best_elsewhere vr [] there = refl
  best_elsewhere vr (p ∷ ps) there =
      ap (λ b. longer_key (cond (b && covers p a.to) (Some (key vr p)) None) (best_key objects a (prefix_keys vr ps))) there ∙ best_elsewhere vr ps there

  module _ (best : Option RouteKey) (t : Option Rid × List Prefix) (ts : List (Option Rid × List Prefix)) (all : Option RouteKey) (kept : longer_key best (best_key objects a (keyed (t ∷ ts))) ≡ all) where
    step : (o : Option RouteKey) → best_key objects a (prefix_keys t.0 t.1) ≡ o → longer_key (longer_key best o) (best_key objects a (keyed ts)) ≡ all
    step o e = longer_past best o (best_key objects a (keyed ts)) ∙ ap (λ x. longer_key best (longer_key x (best_key objects a (keyed ts)))) (sym e) ∙ ap (longer_key best) (sym (best_append (prefix_keys t.0 t.1) (keyed ts))) ∙ kept

    pub step_found : (p : Prefix) (new : Option RouteKey) → is_router a.vrf (router_at objects t.0) ≡ true → best_prefix t.1 a.to ≡ Some p → new ≡ longer_key best (Some (key t.0 p)) → longer_key new (best_key objects a (keyed ts)) ≡ all
    step_found p new here found is = ap (λ x. longer_key x (best_key objects a (keyed ts))) is ∙ step (Some (key t.0 p)) (best_here t.0 t.1 here ∙ ap (option_map (key t.0)) found)

    pub step_none : is_router a.vrf (router_at objects t.0) ≡ true → best_prefix t.1 a.to ≡ None → longer_key best (best_key objects a (keyed ts)) ≡ all
    step_none here none = ap (λ x. longer_key x (best_key objects a (keyed ts))) (sym (longer_none best)) ∙ step None (best_here t.0 t.1 here ∙ ap (option_map (key t.0)) none)

    pub step_elsewhere : is_router a.vrf (router_at objects t.0) ≡ false → longer_key best (best_key objects a (keyed ts)) ≡ all
    step_elsewhere there = ap (λ x. longer_key x (best_key objects a (keyed ts))) (sym (longer_none best)) ∙ step None (best_elsewhere t.0 t.1 there)

-- the objects matter by their routers alone
pub best_same : (xs ys : Objects) (a : Packet) → ((vr : Option Rid) → router_at xs vr ≡ router_at ys vr) → (ks : List RouteKey) → best_key xs a ks ≡ best_key ys a ks
best_same xs ys a same [] = refl
best_same xs ys a same (k ∷ ks) = ap (λ r. longer_key (cond (is_router a.vrf r && covers k.1 a.to) (Some k) None) (best_key xs a ks)) (same k.0) ∙ ap (longer_key (covering ys a k)) (best_same xs ys a same ks)
