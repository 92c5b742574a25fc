-- What the steps of a start do to the words of the area.
use Rattle.std.specs.Prelude.{ℕ, ◌+◌, ◌≤◌, ◌<◌, ◌≡◌, true, List, get_or, set, drop}
use Rattle.model.specs.Base.{if◌then◌otherwise◌}
use Rattle.model.specs.Circuit.{Circuit}
use Rattle.model.specs.Questions.{queues}
use Rattle.states.specs.View.{queue_at, is_queue, number}

-- The first k words are 0, and what lies behind the slots and the count is the same.
pub record Cleared (k : ℕ) (ws to : List ℕ) : Type 0 where
  pub zero : (i : ℕ) → i < k → get_or to i 0 ≡ 0
  pub behind : drop (queue_at 0) to ≡ drop (queue_at 0) ws

-- Gate g, if it is a Queue, has part n, with no records.
unfoldable pub given : Circuit → ℕ → ℕ → List ℕ → List ℕ
given c g n ws = if is_queue c g then set (set ws g n) (queue_at n + 1) 0 otherwise ws

-- the part that the next Queue has
unfoldable pub next_part : Circuit → ℕ → ℕ → ℕ
next_part c g n = if is_queue c g then n + 1 otherwise n

-- Each Queue below gate k has the part of its number, with no records; the slots, the count and what lies behind the parts are the same.
pub record Numbered (c : Circuit) (k : ℕ) (ws to : List ℕ) : Type 0 where
  pub slots : (i : ℕ) → 64 ≤ i → i < queue_at 0 → get_or to i 0 ≡ get_or ws i 0
  pub parts : (g : ℕ) → g < k → is_queue c g ≡ true → get_or to g 0 ≡ number c g
  pub counts : (g : ℕ) → g < k → is_queue c g ≡ true → get_or to (queue_at (number c g) + 1) 0 ≡ 0
  pub rest : drop (queue_at (queues c)) to ≡ drop (queue_at (queues c)) ws
