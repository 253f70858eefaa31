-- Where the packets of an address go, as the report says it. Own.
use Rattle.std.specs.Prelude.{ℕ, List, [], ◌∷◌, ◌++◌, flat_map, codes}
use Rattle.swss_types.specs.Ip.{ip_text}
use Rattle.swss_types.specs.Mac.{mac_text}
use Rattle.swss_types.specs.VrfNames.{vrf_name_text}
use Rattle.swss_types.specs.declared.address.Ip.{Ip}
use Rattle.swss_types.specs.declared.address.Mac.{Mac}
use Rattle.swss_types.specs.declared.vrf.Vrf.{Vrf}
use Rattle.swss_types.specs.declared.vrf.Vrf.TheVariants as vrf
use Rattle.table_schema.specs.Plan.{Ports}
use Rattle.sai_types.specs.declared.weight.WHop.{WHop}
use Rattle.sai_chip.specs.declared.forward.Forward.{Forward}
use Rattle.sai_chip.specs.declared.forward.Forward.TheVariants as forward
use Rattle.swss_report.specs.ChipLine.{base_text, whop_text}

-- a hop with its weight and its Ethernet address, behind a blank
abbrev pub way_text : Ports → (WHop × Mac) → List ℕ
way_text plan way = 32 ∷ whop_text plan way.0 ++ 47 ∷ mac_text way.1

abbrev pub answer_text : Ports → Forward → List ℕ
answer_text plan forward.Cpu = codes " cpu"
answer_text plan forward.Drop = codes " drop"
answer_text plan (forward.Direct base) = codes " direct " ++ base_text plan base
answer_text plan (forward.Via ways) = codes " via" ++ flat_map (way_text plan) ways

-- the virtual router that was asked, unless it is the default one
abbrev pub asked_text : Vrf → List ℕ
asked_text vrf.Default = []
asked_text (vrf.Named label) = vrf_name_text label ++ codes " "

-- the line of an address in a router whose packets go there
abbrev pub forward_text : Ports → Vrf → Ip → Forward → List ℕ
forward_text plan v ip answer = codes "forward " ++ asked_text v ++ ip_text ip ++ answer_text plan answer ++ 10 ∷ []
