-- Which input and which output of the definition each case of the code is.
use Rattle.model.specs.Kinds.{In, exec, exec_only, value, watched, route, set_to, anything, ticks, seconds, variable, channel, loop, Out as Output, fires, shows, passes}
use Rattle.kinds.specs.declared.Pin.{Pin}
use Rattle.kinds.specs.declared.Pin.TheVariants.{Exec, ExecOnly, Value, Watched, Route, Anything, Ticks, Seconds, Variable, Channel, Loop}
use Rattle.kinds.specs.declared.Out.{Out}
use Rattle.kinds.specs.declared.Out.TheVariants.{Fires, Shows, Passes}

-- an input of the code, as the definition has it
unfoldable pub in_of : Pin → In
in_of Exec = exec
in_of ExecOnly = exec_only
in_of Value = value
in_of Watched = watched
in_of Route = route
in_of Anything = set_to anything
in_of Ticks = set_to ticks
in_of Seconds = set_to seconds
in_of Variable = set_to variable
in_of Channel = set_to channel
in_of Loop = set_to loop

-- an output of the code, as the definition has it
unfoldable pub out_of : Out → Output
out_of Fires = fires
out_of Shows = shows
out_of Passes = passes
