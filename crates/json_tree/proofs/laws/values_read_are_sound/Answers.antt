-- The law of the values that are read.
use Rattle.json_tree.proofs.SoundReading as reading
use Rattle.json_tree.proofs.laws.values_read_are_sound.Goals as goal

pub returns : goal.returns
returns c = reading.values_read_are_sound
