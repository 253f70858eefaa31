-- the tables of things answer each packet as the things forward it
use Rattle.std.proofs.Common.{◌≡◌, Bool, true, false, cond, ◌||◌, ◌&&◌, nat_lt, List, [], ◌∷◌, Option, None, Some, IsSome, Result, Ok, Err, IfOk, option_map, refl, sym, ap, ◌∙◌, subst, arith}
use Rattle.std.specs.BTreeMap.{insert_entry, is_at}
use Rattle.std.specs.BTreeSet.{insert_key}
use Rattle.std.specs.Cmp.{IsEquivalence, IsTotalOrder, eq_by_cmp_equiv}
use Rattle.std.specs.List.{AllByRecursion, list_any}
use Rattle.std.specs.Map.{lookup}
use Rattle.std.specs.Option.{option_and_then, unwrap_or}
use Rattle.std.specs.Ordering.{eq_by_cmp, is_eq, match_ordering}
use Rattle.std.proofs.lemmas.Map.{lookup-set_value}
use Rattle.std.specs.declared.cmp.Ordering.{Ordering}
use Rattle.std.specs.declared.cmp.Ordering.TheVariants.{Less, Equal, Greater}
use Rattle.std.proofs.lemmas.Bool.{false_from_ne_true, ltb-true}
use Rattle.std.proofs.lemmas.Cmp.{tied_itself}
use Rattle.swss_types.specs.Address.{IsProperPrefix, covers}
use Rattle.swss_types.specs.AddressOrder.{ip_cmp, ip_total, prefix_cmp, prefix_total}
use Rattle.swss_types.specs.Vrf.{same_vrf, vrf_cmp, vrf_total}
use Rattle.swss_types.specs.contracts.address.IpOrd.TheImpl.Laws as ordered_ip
use Rattle.swss_types.specs.contracts.vrf.VrfOrd.TheImpl.Laws as ordered_vrf
use Rattle.swss_types.specs.declared.address.Ip.{Ip}
use Rattle.swss_types.specs.declared.address.Prefix.{Prefix}
use Rattle.swss_types.specs.declared.vrf.Packet.{Packet}
use Rattle.swss_types.specs.declared.vrf.Vrf.{Vrf}
use Rattle.swss_types.proofs.AddressOrders.{prefix_exact}
use Rattle.swss_types.proofs.Maps.{alike, lookup-insert_entry}
use Rattle.swss_types.proofs.Routers.{vrf_exact, vrf-refl}
use Rattle.swss_types.proofs.Tied.{tied}
use Rattle.sai_types.specs.declared.thing.Goal.{Goal}
use Rattle.sai_types.specs.declared.thing.Thing.{Thing}
use Rattle.sai_types.specs.declared.thing.Thing.TheVariants as thing
use Rattle.sai_types.specs.Forwarding.{best_route, decide_route, decision_of, forward, forwarding_of, has_own, is_own, longer, with_route}
use Rattle.sai_types.specs.Forwarding as forwarding
use Rattle.sai_types.specs.Refusal.{same_ip}
use Rattle.lpm_table.specs.Longest.{best_prefix, the_longer}
use Rattle.lpm_table.proofs.Alls.{all_insert}
use Rattle.lpm_table.proofs.Longests.{best_longest}
use Rattle.sai_chip.specs.Forward.{answer_of}
use Rattle.sai_chip.specs.declared.forward.Forward.{Forward}
use Rattle.sai_chip.specs.declared.forward.Forward.TheVariants as answers
use Rattle.packet_walk.specs.declared.router_table.Row.{Row}
use Rattle.packet_walk.specs.declared.router_table.Row.TheVariants as row
use Rattle.packet_walk.specs.Sends.{Macs, macs_in, send_by}
use Rattle.packet_walk.specs.Tables.{AreTablesOf, IsProperThing, TableParts, Tables, no_table, put_into, put_row, sent_by_route, table_at, tables_of, with_table_row}
use Rattle.packet_walk.proofs.Longer.{best-put}
use Rattle.packet_walk.proofs.Sent.{send-found}

or-twice : (x y : Bool) → (x || y) ≡ (x || (x || y))
or-twice true y = refl
or-twice false y = refl

or-swap : (x y z : Bool) → (x || (y || z)) ≡ (y || (x || z))
or-swap true true z = refl
or-swap true false z = refl
or-swap false true z = refl
or-swap false false z = refl

-- a key is among others and one more where it is that one or among the others
any-put : {K : Type 0} (cmp : K → K → Ordering) (total : IsTotalOrder cmp) (q k : K) (ks : List K) → list_any (is_at (cmp q)) (insert_key cmp ks k) ≡ (is_at (cmp q) k || list_any (is_at (cmp q)) ks)
any-put cmp total q k [] = refl
any-put cmp total q k (x ∷ xs) =
    elim (cmp k x) as (λ o. cmp k x ≡ o → list_any (is_at (cmp q)) (match_ordering o (k ∷ x ∷ xs) (x ∷ xs) (x ∷ insert_key cmp xs k)) ≡ (is_at (cmp q) k || (is_at (cmp q) x || list_any (is_at (cmp q)) xs))) [
      | Less ↦ λ e. refl
      | Equal ↦ λ e. or-twice (is_at (cmp q) x) (list_any (is_at (cmp q)) xs) ∙ ap (λ b. b || (is_at (cmp q) x || list_any (is_at (cmp q)) xs)) (alike cmp total q k x (ap is_eq e))
      | Greater ↦ λ e. ap (λ b. is_at (cmp q) x || b) (any-put cmp total q k xs) ∙ or-swap (is_at (cmp q) x) (is_at (cmp q) k) (list_any (is_at (cmp q)) xs)
    ] refl

same-address : (x ip : Ip) → is_at (ip_cmp ip) x ≡ same_ip x ip
same-address x ip = (eq_by_cmp_equiv ip_total).symm ip x ∙ sym (ordered_ip.matches_eq-law x ip)

same-router : (w v : Vrf) → is_at (vrf_cmp v) w ≡ same_vrf w v
same-router w v = (eq_by_cmp_equiv vrf_total).symm v w ∙ sym (ordered_vrf.matches_eq-law w v)

router-laws : IsEquivalence (eq_by_cmp vrf_cmp)
router-laws = eq_by_cmp_equiv vrf_total

-- what is chosen where an entry is found
module _ (tables : Tables) (v : Vrf) where
  chosen : (t : TableParts) (b : Bool) → unwrap_or (cond b (Some t) (lookup (is_at (vrf_cmp v)) tables)) no_table ≡ cond b t (table_at tables v)
  chosen t true = refl
  chosen t false = refl

-- a router's table where a row is put into that of a router
placed : (tables : Tables) (w v : Vrf) (r : Row) → table_at (put_row tables w r) v ≡ cond (is_at (vrf_cmp v) w) (with_table_row (table_at tables w) r) (table_at tables v)
placed tables w v r =
    elim (lookup (is_at (vrf_cmp w)) tables) as (λ o. lookup (is_at (vrf_cmp w)) tables ≡ o → table_at (put_into o tables w r) v ≡ cond (is_at (vrf_cmp v) w) (with_table_row (unwrap_or o no_table) r) (table_at tables v)) [
      | None ↦ λ e. ap (λ o. unwrap_or o no_table) (lookup-insert_entry vrf_cmp vrf_total tables w (with_table_row no_table r) v) ∙ chosen tables v (with_table_row no_table r) (is_at (vrf_cmp v) w)
      | Some t ↦ λ e.
          ap (λ o. unwrap_or o no_table) (lookup-set_value router-laws (is_at (vrf_cmp w)) (λ x y same. router-laws.congr w x y same) v (with_table_row t r) tables (subst IsSome (sym e) refl))
          ∙ chosen tables v (with_table_row t r) (is_at (vrf_cmp w) v)
          ∙ ap (λ b. cond b (with_table_row t r) (table_at tables v)) (router-laws.symm w v)
    ] refl

abbrev packet : Vrf → Ip → Packet
packet v ip = record { vrf = v; to = ip }

abbrev first : Prefix × Goal → Prefix
first r = r.0

module _ (send : Goal → Forward) where
  -- a table has of a router what these things say of its packets
  record IsTableFor (ts : List Thing) (v : Vrf) (t : TableParts) : Type 0 where
    pub own : (ip : Ip) → list_any (is_at (ip_cmp ip)) t.own ≡ has_own ts (packet v ip)
    pub best : (ip : Ip) → best_prefix t.prefixes ip ≡ option_map first (best_route ts (packet v ip))
    pub sends : (ip : Ip) (r : Prefix × Goal) → best_route ts (packet v ip) ≡ Some r → lookup (is_at (prefix_cmp r.0)) t.sends ≡ Some (send r.1)
    pub proper : AllByRecursion IsProperPrefix t.prefixes

  module _ (ts : List Thing) (v : Vrf) (t : TableParts) (h : IsTableFor ts v t) where
    -- a thing that says nothing of the router's packets
    past : (x : Thing) → ((ip : Ip) → is_own (packet v ip) x ≡ false) → ((ip : Ip) (best : Option (Prefix × Goal)) → with_route (packet v ip) x best ≡ best) → IsTableFor (x ∷ ts) v t
    past x silent same = record {
      own = λ ip. h.own ip ∙ sym (ap (λ b. b || has_own ts (packet v ip)) (silent ip));
      best = λ ip. h.best ip ∙ sym (ap (option_map first) (same ip (best_route ts (packet v ip))));
      sends = λ ip r e. h.sends ip r (sym (same ip (best_route ts (packet v ip))) ∙ e);
      proper = h.proper;
    }

    own-put : (x : Ip) → IsTableFor (thing.Own v x ∷ ts) v (with_table_row t (row.Own x))
    own-put x = record {
      own = λ ip.
          any-put ip_cmp ip_total ip x t.own
          ∙ ap (λ b. b || list_any (is_at (ip_cmp ip)) t.own) (same-address x ip ∙ sym (ap (λ b. b && same_ip x ip) (vrf-refl v)))
          ∙ ap (λ b. (same_vrf v v && same_ip x ip) || b) (h.own ip);
      best = h.best;
      sends = h.sends;
      proper = h.proper;
    }

    module _ (p : Prefix) (proper : IsProperPrefix p) (g : Goal) where
      first-longer : (best : Option (Prefix × Goal)) → the_longer p (option_map first best) ≡ option_map first (longer p g best)
      first-longer None = refl
      first-longer (Some b) =
          elim (nat_lt p.len b.0.len) as (λ c. cond c (Some b.0) (Some p) ≡ option_map first (cond c (Some b) (Some (p, g)))) [
            | true ↦ refl
            | false ↦ refl
          ]

      in-router : (ip : Ip) (best : Option (Prefix × Goal)) → with_route (packet v ip) (thing.Route v p g) best ≡ cond (covers p ip) (longer p g best) best
      in-router ip best = ap (λ b. cond (b && covers p ip) (longer p g best) best) (vrf-refl v)

      best-there : (ip : Ip) → best_prefix (insert_key prefix_cmp t.prefixes p) ip ≡ option_map first (best_route (thing.Route v p g ∷ ts) (packet v ip))
      best-there ip =
          best-put ip p proper t.prefixes h.proper
          ∙ ap (λ b. cond (covers p ip) (the_longer p b) b) (h.best ip)
          ∙ elim (covers p ip) as (λ c. cond c (the_longer p (option_map first (best_route ts (packet v ip)))) (option_map first (best_route ts (packet v ip))) ≡ option_map first (cond c (longer p g (best_route ts (packet v ip))) (best_route ts (packet v ip)))) [
            | true ↦ first-longer (best_route ts (packet v ip))
            | false ↦ refl
          ]
          ∙ sym (ap (option_map first) (in-router ip (best_route ts (packet v ip))))

      -- another prefix sends as before
      other-sends : (q : Prefix) (f : Option Forward) → (q ≡ p → ⊥) → lookup (is_at (prefix_cmp q)) t.sends ≡ f → lookup (is_at (prefix_cmp q)) (insert_entry prefix_cmp t.sends p (send g)) ≡ f
      other-sends q f apart e =
          let none : is_at (prefix_cmp q) p ≡ false = false_from_ne_true (is_at (prefix_cmp q) p) (λ same. apart (prefix_exact q p (tied (prefix_cmp q p) same))) in
          lookup-insert_entry prefix_cmp prefix_total t.sends p (send g) q ∙ ap (λ b. cond b (Some (send g)) (lookup (is_at (prefix_cmp q)) t.sends)) none ∙ e

      own-sends : lookup (is_at (prefix_cmp p)) (insert_entry prefix_cmp t.sends p (send g)) ≡ Some (send g)
      own-sends = lookup-insert_entry prefix_cmp prefix_total t.sends p (send g) p ∙ ap (λ o. cond (is_eq o) (Some (send g)) (lookup (is_at (prefix_cmp p)) t.sends)) (tied_itself prefix_total p)

      longer-sends : (ip : Ip) (r : Prefix × Goal) (best : Option (Prefix × Goal)) → best_route ts (packet v ip) ≡ best → longer p g best ≡ Some r → lookup (is_at (prefix_cmp r.0)) (insert_entry prefix_cmp t.sends p (send g)) ≡ Some (send r.1)
      longer-sends ip r None is e =
          let same : (p, g) ≡ r = cc in
          subst (λ r. lookup (is_at (prefix_cmp r.0)) (insert_entry prefix_cmp t.sends p (send g)) ≡ Some (send r.1)) same own-sends
      longer-sends ip r (Some b) is e =
          elim (nat_lt p.len b.0.len) as (λ c. nat_lt p.len b.0.len ≡ c → cond c (Some b) (Some (p, g)) ≡ Some r → lookup (is_at (prefix_cmp r.0)) (insert_entry prefix_cmp t.sends p (send g)) ≡ Some (send r.1)) [
            | true ↦ λ lt e.
                let same : b ≡ r = cc in
                let less = ltb-true p.len b.0.len lt in
                subst (λ r. lookup (is_at (prefix_cmp r.0)) (insert_entry prefix_cmp t.sends p (send g)) ≡ Some (send r.1)) same
                (other-sends b.0 (Some (send b.1)) (λ same-prefix. let len : b.0.len ≡ p.len = ap (λ q. q.len) same-prefix in omega (arith, less, len)) (h.sends ip b is))
            | false ↦ λ ge e.
                let same : (p, g) ≡ r = cc in
                subst (λ r. lookup (is_at (prefix_cmp r.0)) (insert_entry prefix_cmp t.sends p (send g)) ≡ Some (send r.1)) same own-sends
          ] refl e

      sends-there : (ip : Ip) (r : Prefix × Goal) → cond (covers p ip) (longer p g (best_route ts (packet v ip))) (best_route ts (packet v ip)) ≡ Some r → lookup (is_at (prefix_cmp r.0)) (insert_entry prefix_cmp t.sends p (send g)) ≡ Some (send r.1)
      sends-there ip r e =
          elim (covers p ip) as (λ c. covers p ip ≡ c → cond c (longer p g (best_route ts (packet v ip))) (best_route ts (packet v ip)) ≡ Some r → lookup (is_at (prefix_cmp r.0)) (insert_entry prefix_cmp t.sends p (send g)) ≡ Some (send r.1)) [
            | true ↦ λ at e. longer-sends ip r (best_route ts (packet v ip)) refl e
            | false ↦ λ out e.
                let covering : covers r.0 ip ≡ true = (best_longest t.prefixes ip r.0 (h.best ip ∙ ap (option_map first) e)).covering in
                other-sends r.0 (Some (send r.1)) (λ same. let at : covers p ip ≡ true = subst (λ q. covers q ip ≡ true) same covering in cc) (h.sends ip r e)
          ] refl e

      route-put : IsTableFor (thing.Route v p g ∷ ts) v (with_table_row t (row.Route p (send g)))
      route-put = record {
        own = h.own;
        best = best-there;
        sends = λ ip r e. sends-there ip r (sym (in-router ip (best_route ts (packet v ip))) ∙ e);
        proper = all_insert IsProperPrefix prefix_cmp t.prefixes p h.proper proper;
      }

  module _ (ts : List Thing) (each : (v : Vrf) → IsTableFor ts v (table_at (tables_of send ts) v)) (w v : Vrf) where
    abbrev before : Tables
    before = tables_of send ts

    -- a thing of the same router, or of another one
    beside : (x : Thing) (r : Row) → IsTableFor (x ∷ ts) w (with_table_row (table_at before w) r) → (same_vrf w v ≡ false → IsTableFor (x ∷ ts) v (table_at before v)) → IsTableFor (x ∷ ts) v (table_at (put_row before w r) v)
    beside x r there elsewhere =
        subst (IsTableFor (x ∷ ts) v) (sym (placed before w v r))
        (elim (is_at (vrf_cmp v) w) as (λ b. is_at (vrf_cmp v) w ≡ b → IsTableFor (x ∷ ts) v (cond b (with_table_row (table_at before w) r) (table_at before v))) [
          | true ↦ λ at. let same : v ≡ w = vrf_exact v w (tied (vrf_cmp v w) at) in subst (λ v. IsTableFor (x ∷ ts) v (with_table_row (table_at before w) r)) (sym same) there
          | false ↦ λ out. elsewhere (sym (same-router w v) ∙ out)
        ] refl)

    own-beside : (x : Ip) → IsTableFor (thing.Own w x ∷ ts) v (table_at (put_row before w (row.Own x)) v)
    own-beside x = beside (thing.Own w x) (row.Own x) (own-put ts w (table_at before w) (each w) x)
        (λ other. past ts v (table_at before v) (each v) (thing.Own w x) (λ ip. ap (λ b. b && same_ip x ip) other) (λ ip best. refl))

    route-beside : (p : Prefix) → IsProperPrefix p → (g : Goal) → IsTableFor (thing.Route w p g ∷ ts) v (table_at (put_row before w (row.Route p (send g))) v)
    route-beside p proper g = beside (thing.Route w p g) (row.Route p (send g)) (route-put ts w (table_at before w) (each w) p proper g)
        (λ other. past ts v (table_at before v) (each v) (thing.Route w p g) (λ ip. refl) (λ ip best. ap (λ b. cond (b && covers p ip) (longer p g best) best) other))

  table-for : (ts : List Thing) → AllByRecursion IsProperThing ts → (v : Vrf) → IsTableFor ts v (table_at (tables_of send ts) v)
  table-for [] h v = record { own = λ ip. refl; best = λ ip. refl; sends = λ ip r e. let never : ⊥ = cc in absurd never; proper = tt }
  table-for (thing.Own w x ∷ ts) h v = own-beside ts (table-for ts h.1) w v x
  table-for (thing.Route w p g ∷ ts) h v = route-beside ts (table-for ts h.1) w v p h.0 g
  table-for (thing.Port p ∷ ts) h v = past ts v (table_at (tables_of send ts) v) (table-for ts h.1 v) (thing.Port p) (λ ip. refl) (λ ip best. refl)
  table-for (thing.Vlan n ∷ ts) h v = past ts v (table_at (tables_of send ts) v) (table-for ts h.1 v) (thing.Vlan n) (λ ip. refl) (λ ip best. refl)
  table-for (thing.VirtualRouter n ∷ ts) h v = past ts v (table_at (tables_of send ts) v) (table-for ts h.1 v) (thing.VirtualRouter n) (λ ip. refl) (λ ip best. refl)
  table-for (thing.BridgePort p ∷ ts) h v = past ts v (table_at (tables_of send ts) v) (table-for ts h.1 v) (thing.BridgePort p) (λ ip. refl) (λ ip best. refl)
  table-for (thing.VlanMember n p m ∷ ts) h v = past ts v (table_at (tables_of send ts) v) (table-for ts h.1 v) (thing.VlanMember n p m) (λ ip. refl) (λ ip best. refl)
  table-for (thing.Rif b w ∷ ts) h v = past ts v (table_at (tables_of send ts) v) (table-for ts h.1 v) (thing.Rif b w) (λ ip. refl) (λ ip best. refl)
  table-for (thing.Neighbor n m ∷ ts) h v = past ts v (table_at (tables_of send ts) v) (table-for ts h.1 v) (thing.Neighbor n m) (λ ip. refl) (λ ip best. refl)
  table-for (thing.NextHop n ∷ ts) h v = past ts v (table_at (tables_of send ts) v) (table-for ts h.1 v) (thing.NextHop n) (λ ip. refl) (λ ip best. refl)
  table-for (thing.Group hs ∷ ts) h v = past ts v (table_at (tables_of send ts) v) (table-for ts h.1 v) (thing.Group hs) (λ ip. refl) (λ ip best. refl)
  table-for (thing.GroupMember hs n ∷ ts) h v = past ts v (table_at (tables_of send ts) v) (table-for ts h.1 v) (thing.GroupMember hs n) (λ ip. refl) (λ ip best. refl)

module _ (ts : List Thing) (h : AllByRecursion IsProperThing ts) where
  abbrev made : Tables
  made = tables_of (send_by (macs_in ts)) ts

  sent-as : (ip : Ip) (t : TableParts) (best : Option (Prefix × Goal)) → best_prefix t.prefixes ip ≡ option_map first best → ((r : Prefix × Goal) → best ≡ Some r → lookup (is_at (prefix_cmp r.0)) t.sends ≡ Some (send_by (macs_in ts) r.1)) → unwrap_or (sent_by_route t ip) answers.Drop ≡ answer_of (forwarding_of ts (decide_route best))
  sent-as ip t None none sends = ap (λ b. unwrap_or (option_and_then (λ p. lookup (is_at (prefix_cmp p)) t.sends) b) answers.Drop) none
  sent-as ip t (Some r) some sends = ap (λ b. unwrap_or (option_and_then (λ p. lookup (is_at (prefix_cmp p)) t.sends) b) answers.Drop) some ∙ ap (λ f. unwrap_or f answers.Drop) (sends r refl) ∙ send-found ts r.1

  -- each packet is answered as the things forward it
  pub tables-answer : AreTablesOf ts made
  tables-answer = record {
    each = λ a.
        let t = table_at made a.vrf in
        let is = table-for (send_by (macs_in ts)) ts h a.vrf in
        ap (λ b. cond b answers.Cpu (unwrap_or (sent_by_route t a.to) answers.Drop)) (is.own a.to)
        ∙ elim (has_own ts a) as (λ b. cond b answers.Cpu (unwrap_or (sent_by_route t a.to) answers.Drop) ≡ answer_of (forwarding_of ts (cond b forwarding.Cpu (decide_route (best_route ts a))))) [
          | true ↦ refl
          | false ↦ sent-as a.to t (best_route ts a) (is.best a.to) (is.sends a.to)
        ];
  }

-- tables that were made by the addresses of things answer as these forward
pub made-answers : {E : Type 0} (r : Result Tables E) (ts : List Thing) (macs : Macs) → macs ≡ macs_in ts → IfOk r (λ fib. fib ≡ tables_of (send_by macs) ts) → IfOk r (λ fib. AllByRecursion IsProperThing ts) → IfOk r (λ fib. AreTablesOf ts fib)
made-answers (Ok fib) ts macs is tabled proper = subst (AreTablesOf ts) (sym (tabled ∙ ap (λ m. tables_of (send_by m) ts) is)) (tables-answer ts proper)
made-answers (Err e) ts macs is tabled proper = tt
