-- `maps::give_port` meets its contract. A port that was given is one that there is.
use Rattle.std.proofs.Common.{sym, ◌∙◌}
use Rattle.maps.specs.PortLaws.{port_passed}
use Rattle.maps.proofs.give_port.Goals as goal

pub port_do-requires : goal.port_do-requires
port_do-requires c = port_passed _ _ _ (sym c.port_answer.ensures ∙ c.in_ok-accepted.was)
