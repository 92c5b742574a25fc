use Rattle.states.proofs.slots.load_buffer.Goals as goal

pub returns : goal.returns
returns c = (c.load_flight-flight.ensures, c.load_later-later.ensures)
