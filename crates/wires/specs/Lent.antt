-- What contracts say of the area `values`, over the circuit of the links.
use Rattle.std.specs.Prelude.{◌≡◌, ℕ, ◌+◌, ◌^◌, ◌<◌, ◌≤◌, List}
use Rattle.words.specs.Slices.{Slice, before, after}
use Rattle.model.specs.Circuit.{Circuit}
use Rattle.model.specs.State.{Wires}
use Rattle.model.specs.Wires.{Marking}
use Rattle.links.specs.Links.{net}
use Rattle.links.specs.Lent.{net_of}
use Rattle.wires.specs.View.{Values, values, with_wires}
use Rattle.wires.specs.Marking.{area, area_with, marking, with_marking, to_do}

-- what it holds at the call, and at the return
abbrev pub values_in : List ℕ → List ℕ → Values
values_in links vs = values (net_of links) vs

abbrev pub values_out : List ℕ → List ℕ → Values
values_out links vs = values (net_of links) vs

-- the wires at the call
abbrev pub wires_in : List ℕ → List ℕ → Wires
wires_in links vs = (values_in links vs).wires

-- the wires become what f makes of them, and nothing else changes
abbrev pub Turns : List ℕ → Slice → (Circuit → Wires → Wires) → Type 0
Turns links vs f = values_out links (after vs) ≡ with_wires (values_in links (before vs)) (f (net_of links) (wires_in links (before vs)))

-- the same, and the stack of marking and what it is for stay
abbrev pub TurnsBesideStack : List ℕ → Slice → (Circuit → Wires → Wires) → Type 0
TurnsBesideStack links vs f =
    area (net_of links) (after vs) ≡ area_with (area (net_of links) (before vs)) (f (net_of links) (area (net_of links) (before vs)).values.wires)

-- one more tick can be counted
abbrev pub TickFits : List ℕ → List ℕ → Type 0
TickFits links vs = (values (net links) vs).wires.tick + 1 < 2 ^ 64

-- ---- marking under way, with n outputs on its stack

-- no more is left to do than there is room for on the stack
abbrev pub FewToDo : List ℕ → List ℕ → ℕ → Type 0
FewToDo links vs n = to_do (marking (net links) vs n).marking ≤ 65

-- at the call
abbrev pub marking_in : List ℕ → List ℕ → ℕ → Marking
marking_in links vs n = (marking (net_of links) vs n).marking

-- it becomes what f makes of it, with r outputs on the stack, and nothing else changes
abbrev pub Marks : List ℕ → Slice → ℕ → ℕ → (Circuit → Marking → Marking) → Type 0
Marks links vs n r f =
    marking (net_of links) (after vs) r ≡ with_marking (marking (net_of links) (before vs) n) (f (net_of links) (marking_in links (before vs) n))
