-- What each state of the code stands for in the definition.
use Rattle.std.specs.Prelude.{ℕ, zero, suc, min, ◌+◌, ◌*◌, ◌/◌, ◌%◌, ◌^◌, Bool, true, false, List, [], ◌∷◌, map, ltb, length, get_or, Option, None, Some}
use Rattle.std.proofs.Math.Option as math
use Rattle.words.specs.Options.{option_of}
use Rattle.model.specs.declared.Value.{Value}
use Rattle.model.specs.declared.Value.TheVariants.{Float}
use Rattle.model.specs.Base.{if◌then◌otherwise◌, snoc}
use Rattle.model.specs.Value.{truthy, bit}
use Rattle.model.specs.State.{Countdown, ticks_left, seconds, Flight as Flying, Delay, idle, flight≔, fires≔, elapsed≔}
use Rattle.model.specs.Delays.{Started, countdown_ticks, countdown_seconds, launch, Moved, moved}
use Rattle.model.specs.Exec.{most_fires}
use Rattle.delays.specs.declared.buffer.Buffer.{Buffer}
use Rattle.delays.specs.declared.buffer.Flight.{Flight}
use Rattle.delays.specs.declared.fires.Fires.{Fires}
use Rattle.delays.specs.declared.clock.Clock.{Clock}
use Rattle.delays.specs.declared.stopwatch.Stopwatch.{Stopwatch}
use Rattle.delays.specs.declared.countdown.Countdown.{Countdown as Counting}
use Rattle.delays.specs.declared.countdown.Countdown.TheVariants.{Ticks, Seconds}
use Rattle.delays.specs.declared.countdown.Started.{Started as Starting}

-- ---- a countdown

-- the definition's countdown
unfoldable pub counted : Counting → Countdown
counted (Ticks n) = ticks_left n
counted (Seconds wait elapsed) = seconds wait elapsed

-- the definition's countdown that starts
unfoldable pub started : Starting → Started
started s = record { left = counted s.left; changed = s.changed }

-- whether it counts seconds, and not ticks
unfoldable pub counts_seconds : Countdown → Bool
counts_seconds (ticks_left n) = false
counts_seconds (seconds wait elapsed) = true

-- as one word: the ticks left, or the wait in the lower half and the seconds so far in the upper
unfoldable pub word_of : Countdown → ℕ
word_of (ticks_left n) = n
word_of (seconds wait elapsed) = wait + 2 ^ 32 * elapsed

-- the countdown that a word holds
unfoldable pub of_word : Bool → ℕ → Countdown
of_word true w = seconds (w % 2 ^ 32) (w / 2 ^ 32)
of_word false w = ticks_left w

-- the countdown that a buffer starts, in seconds or in ticks, by its settings wait and zero wait
unfoldable pub countdown_by : Bool → Bool → Value → Value → Started
countdown_by by_seconds rising wait zero_wait = if by_seconds then countdown_seconds rising wait zero_wait otherwise countdown_ticks rising wait zero_wait

-- ---- a value buffer

-- the countdown that an input starts
unfoldable pub starts : Bool → Value → Value → Value → Started
starts by_seconds wait zero_wait v = countdown_by by_seconds (truthy v) wait zero_wait

-- what is in flight
unfoldable pub flight_of : Option Flight → math.Option Flying
flight_of None = math.none
flight_of (Some f) = launch f.what (counted f.left)

-- the row of a value, or the row of none
unfoldable pub row_of : Option Value → List Value
row_of None = []
row_of (Some v) = v ∷ []

-- a Delay that has the part of a value buffer alone
unfoldable pub buffer : Buffer → Delay
buffer b = flight≔ idle (flight_of b.flight) (option_of b.later)

-- what a value buffer moved on to, with what landed and whether narrowing changed a wait
unfoldable pub buffer_moved : Buffer → Moved
buffer_moved b = record { state = buffer b; row = row_of b.landed; fires = 0; changed = b.changed }

-- ---- a buffer in exec mode

-- n words of a ring, from slot h on
unfoldable pub ring : ℕ → ℕ → List ℕ → List ℕ
ring zero h ws = []
ring (suc n) h ws = get_or ws (h % most_fires) 0 ∷ ring n (suc h) ws

-- the countdowns that they hold
unfoldable pub under_way : Bool → ℕ → ℕ → List ℕ → List Countdown
under_way by_seconds n h ws = map (of_word by_seconds) (ring n h ws)

-- the fires under way, at most 32
unfoldable pub fires_of : Fires → List Countdown
fires_of f = under_way f.seconds (min most_fires f.count) f.first f.words

-- a Delay that has the part of a buffer in exec mode alone
unfoldable pub fires : Fires → Delay
fires f = fires≔ idle (fires_of f)

-- what a buffer in exec mode moved on to, with how many fired
unfoldable pub fires_moved : Fires → Moved
fires_moved f = moved (fires f) [] f.fired

-- one fire more, if there is room
unfoldable pub add_fire : Delay → Countdown → Delay
add_fire d k = if ltb (length d.fires) most_fires then fires≔ d (snoc d.fires k) otherwise d

-- ---- a Clock

-- a Delay that has the part of a Clock alone
unfoldable pub clock : Clock → Delay
clock c = elapsed≔ idle c.elapsed false

-- what a Clock moved on to, with whether it fired
unfoldable pub clock_moved : Clock → Moved
clock_moved c = moved (clock c) [] (bit c.fired)

-- ---- a Stopwatch

-- a Delay that has the part of a Stopwatch alone
unfoldable pub stopwatch : Stopwatch → Delay
stopwatch s = elapsed≔ idle s.time s.running

-- what a Stopwatch moved on to, with the time that it shows and whether it expired
unfoldable pub stopwatch_moved : Stopwatch → Moved
stopwatch_moved s = moved (stopwatch s) (if s.shows then Float s.time ∷ [] otherwise []) (bit s.expired)

-- What a proof by computation opens.
unfoldable pub states_opened : ℕ
unfolding counted started counts_seconds word_of of_word countdown_by starts flight_of row_of buffer buffer_moved ring under_way fires_of fires fires_moved add_fire clock clock_moved stopwatch stopwatch_moved
states_opened = 0
