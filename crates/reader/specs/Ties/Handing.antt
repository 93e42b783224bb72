-- Ties: what the code's result hands back: the network, or a refusal beside zeros.
use Rattle.std.specs.Prelude.{Result, Ok, Err}
use Rattle.costs.specs.declared.networks.Network.{Network}
use Rattle.answers.specs.Answers.{Done}
use Rattle.answers.specs.declared.Refusal.{Refusal}
use Rattle.reader.specs.declared.reading.Reading.{Reading}
use Rattle.reader.specs.Reading.{no_network}

abbrev pub handed : Result Network Refusal → Reading
handed (Ok network) = record { answer = Done; network = network }
handed (Err refusal) = record { answer = Err refusal; network = no_network }
