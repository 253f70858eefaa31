-- the keys of a script that is made
use Rattle.std.proofs.Common.{ℕ, zero, suc, ◌+◌, ◌*◌, ◌<◌, ◌≤◌, List, [], ◌∷◌, ◌++◌, map, refl, arith}
use Rattle.std.specs.List.{AllByRecursion}
use Rattle.swss_types.specs.Address.{IsProperIp}
use Rattle.swss_types.specs.declared.vrf.Vrf.TheVariants as vrf
use Rattle.table_schema.specs.ProperKey.{IsReadKey}
use Rattle.table_schema.specs.Writes.{HasReadKey}
use Rattle.table_schema.specs.declared.key.Key.{Key}
use Rattle.table_schema.specs.declared.key.Key.TheVariants as key
use Rattle.table_schema.specs.declared.write.Write.{Write}
use Rattle.table_schema.proofs.KeyTexts.{IsProperKey-typed, IsTyped}
use Rattle.swss_script.specs.Generated.{address_row, base_rows, drawn_route, each_from, generated, interface_row, neighbour_ip, neighbour_on, neighbour_row, next_state, port_name, port_row, route_prefix, routes_from, v4}
use Rattle.swss_script.specs.Sections.{acts_of}
use Rattle.swss_script.specs.Sent.{writes_in}
use Rattle.swss_script.specs.declared.parts.Act.{Act}
use Rattle.swss_script.specs.declared.parts.Act.TheVariants as act
use Rattle.swss_script.specs.declared.parts.Round.{Round}
use Rattle.swss_script.proofs.Eaches.{all-each}

read-typed : (k : Key) → IsTyped k → IsReadKey k
read-typed k typed = let proper = IsProperKey-typed k typed in record { parts = proper.parts; reads = proper.reads }

abbrev IsReadAct : Act → Type 0
IsReadAct (act.Write write) = HasReadKey write
IsReadAct act.Restart = Unit {0}

abbrev AreReadActs : List Act → Type 0
AreReadActs acts = AllByRecursion IsReadAct acts

read-both : (xs ys : List Act) → AreReadActs xs → AreReadActs ys → AreReadActs (xs ++ ys)
read-both [] ys first more = more
read-both (x ∷ xs) ys first more = (first.0, read-both xs ys first.1 more)

-- ---- the rows

read-port : (k : ℕ) → k < 64 → IsReadAct (port_row k)
read-port k small = read-typed (key.Port (4 * k)) (omega (arith, small))

read-interface : (k : ℕ) → k < 64 → IsReadAct (interface_row k)
read-interface k small = read-typed (key.Intf (port_name k)) (omega (arith, small))

read-address : (k : ℕ) → k < 64 → IsReadAct (address_row k)
read-address k small = read-typed (key.Addr (port_name k) (v4 10 0 k 1) 24) (omega (arith, small), (omega (arith, small), omega arith))

proper-neighbour : (j : ℕ) → j < 256 → IsProperIp (neighbour_ip j)
proper-neighbour j small = omega (arith, small)

read-neighbour : (j : ℕ) → j < 256 → IsReadAct (neighbour_row j)
read-neighbour j small = read-typed (key.Neigh (neighbour_on j) (neighbour_ip j)) ((omega (arith, small), proper-neighbour j small), refl)

read-base : AreReadActs base_rows
read-base =
    let ports = all-each port_row IsReadAct 64 read-port 0 64 (omega arith) in
    let interfaces = all-each interface_row IsReadAct 64 read-interface 0 64 (omega arith) in
    let addresses = all-each address_row IsReadAct 64 read-address 0 64 (omega arith) in
    let neighbours = all-each neighbour_row IsReadAct 256 read-neighbour 0 256 (omega arith) in
    read-both (each_from port_row 0 64 ++ each_from interface_row 0 64 ++ each_from address_row 0 64) (each_from neighbour_row 0 256)
    (read-both (each_from port_row 0 64 ++ each_from interface_row 0 64) (each_from address_row 0 64)
    (read-both (each_from port_row 0 64) (each_from interface_row 0 64) ports interfaces) addresses) neighbours

-- ---- routes

read-route : (i state : ℕ) → i < 60000 → IsReadAct (drawn_route i state)
read-route i state small = read-typed (key.Route vrf.Default (route_prefix i)) (tt, (omega (arith, small), omega arith, omega (arith, small)))

read-routes : (i state n : ℕ) → i + n ≤ 60000 → AreReadActs (routes_from i state n)
read-routes i state zero within = tt
read-routes i state (suc n) within = (read-route i state (omega (arith, within)), read-routes (i + 1) (next_state (next_state state)) n (omega (arith, within)))

-- ---- rounds

abbrev AreReadWrites : List (ℕ × Write) → Type 0
AreReadWrites writes = AllByRecursion (λ (w : ℕ × Write). HasReadKey w.1) writes

read-acts : (producer : ℕ) (acts : List Act) (rest : List (ℕ × Write)) → AreReadActs acts → AreReadWrites rest → AreReadWrites (map (λ w. (producer, w)) (acts_of acts) ++ rest)
read-acts producer [] rest first more = more
read-acts producer (act.Write write ∷ acts) rest first more = (first.0, read-acts producer acts rest first.1 more)
read-acts producer (act.Restart ∷ acts) rest first more = read-acts producer acts rest first.1 more

read-two : (base routes : List Act) → AreReadActs base → AreReadActs routes → AreReadWrites (writes_in ((record { producer = 1; acts = base }) ∷ (record { producer = 2; acts = routes }) ∷ []))
read-two base routes first more = read-acts 1 base (writes_in ((record { producer = 2; acts = routes }) ∷ [])) first (read-acts 2 routes [] more tt)

-- each key of a script that is made is one that was read
pub read-made : (n seed : ℕ) → n ≤ 60000 → AllByRecursion (λ (r : Round). AreReadWrites (writes_in r.sections)) (generated n seed).rounds
read-made n seed few = (read-two base_rows (routes_from 0 seed n) read-base (read-routes 0 seed n (omega (arith, few))), (tt, tt))
