-- The report of a network schedule (this project's choice).
use Rattle.std.specs.Prelude.{◌≡◌, ℕ, Bool, true, false, List, [], ◌∷◌, ◌++◌, Some, None, codes}
use Rattle.std.specs.FinMap as map
use Rattle.std.specs.Fmt.{decimal}
use Rattle.std.specs.List.{flat_map}
use Rattle.std.specs.Ordering.{nat_cmp}
use Rattle.osb_binding_network.specs.Binding.{BindingCell}
use Rattle.osb_binding_network.specs.Service.{ServiceCells}
use Rattle.osb_network.specs.Cell.{Cell}
use Rattle.osb_network_run.specs.Network.{Services}
use Rattle.osb_network_run.specs.Settling.{SettlesEach}
use Rattle.osb_network_run.specs.declared.tally.Tally.{Tally}
use Rattle.osb_network_replay.specs.Columns.{columns, credentials, life_text}
use Rattle.osb_network_replay.specs.Seen.{seen_binding, seen_instance}

-- LIFE STATE OUT ATTEMPT PHASE WORK TOMBSTONE RESOURCE
unfoldable pub instance_line : ℕ → Cell → List ℕ
instance_line id cell =
    life_text (record { instance = id; binding = None }) ++ columns 32 (seen_instance cell) ++ 10 ∷ []

-- the same of a binding, and RECORDED CREDENTIALS
unfoldable pub binding_line : ℕ → ℕ → BindingCell → List ℕ
binding_line instance id c =
    life_text (record { instance = instance; binding = Some id }) ++ columns 32 (seen_binding c)
    ++ credentials 32 (seen_binding c) ++ 10 ∷ []

-- the lines of the bindings of an instance, in ascending order of their ids
abbrev pub binding_lines : ℕ → map.FinMap nat_cmp BindingCell → List ℕ
binding_lines id bindings = flat_map (λ b. binding_line id b.0 b.1) (map.entries bindings)

-- the line of an instance, and then those of its bindings
unfoldable pub service_lines : ℕ → ServiceCells → List ℕ
service_lines id service = instance_line id service.instance ++ binding_lines id service.bindings

-- the lines of all instances, in ascending order of their ids
abbrev pub network_lines : Services → List ℕ
network_lines services = flat_map (λ s. service_lines s.0 s.1) (map.entries services)

-- the line of a count
abbrev pub count_line : List ℕ → ℕ → List ℕ
count_line name count = name ++ 32 ∷ decimal count ++ 10 ∷ []

-- the lines of all lives, and then the two counts
abbrev pub report_text : Tally → List ℕ
report_text tally =
    network_lines tally.network
    ++ count_line (codes "applied") tally.applied ++ count_line (codes "skipped") tally.skipped

-- the report of a tally, or of what it is once each instance and each binding is settled
abbrev pub IsReport : Bool → Tally → List ℕ → Type 0
IsReport false tally text = text ≡ report_text tally
IsReport true tally text =
    (network : Services) × SettlesEach tally.network network
    × (text ≡ report_text (record { network = network; applied = tally.applied; skipped = tally.skipped }))
