-- How packets are shared out among workers, and what they find put together. Own.
use Rattle.std.specs.Prelude.{ℕ, ◌+◌, ◌-◌, ◌*◌, ◌/◌, ◌%◌, ⊤, min, List, [], ◌∷◌, ◌++◌, length, take, drop, Result, Ok, Err}
use Rattle.std.specs.Global.{Vec}
use Rattle.swss_types.specs.declared.vrf.Packet.{Packet}
use Rattle.swss_types.specs.declared.out_of_memory.OutOfMemory.{OutOfMemory}
use Rattle.sai_chip.specs.declared.forward.Forward.{Forward}

-- where the part of a worker begins among this many packets: parts follow one another, and their sizes differ by at most one, larger ones first
abbrev pub part_start : ℕ → ℕ → ℕ → ℕ
part_start count workers worker = worker * (count / workers) + min worker (count % workers)

-- the packets of a worker's part
abbrev pub part_of : List Packet → ℕ → ℕ → List Packet
part_of ps workers worker = take (part_start (length ps) workers (worker + 1) - part_start (length ps) workers worker) (drop (part_start (length ps) workers worker) ps)

abbrev pub Part : Type 0
Part = Result (Vec Forward) OutOfMemory

-- a part was walked to its end
abbrev pub HasAnswers : Part → Type 0
HasAnswers (Ok answers) = ⊤
HasAnswers (Err _) = ⊥

abbrev pub answers_of : Part → List Forward
answers_of (Ok answers) = answers.items
answers_of (Err _) = []

-- what stands in the parts, one behind the other
abbrev pub joined_parts : List Part → List Forward
joined_parts [] = []
joined_parts (p ∷ ps) = answers_of p ++ joined_parts ps
