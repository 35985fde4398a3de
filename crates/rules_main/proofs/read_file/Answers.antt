-- `rules_main::read_file` meets its contract: the places that it is lent are enough for each file. Assumes nothing.
use Rattle.files.proofs.Steps.{places-fit}
use Rattle.rules_main.proofs.read_file.Goals as goal

pub read_text-requires : goal.read_text-requires
read_text-requires g c = places-fit c.args.file c.args.places.now c.requires
