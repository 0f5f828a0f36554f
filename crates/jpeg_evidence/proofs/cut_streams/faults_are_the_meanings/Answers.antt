use Rattle.jpeg_evidence.proofs.Cut.NamedFaults.{faults_are_the_meanings, meant_faults_are_shown}
use Rattle.jpeg_evidence.proofs.cut_streams.faults_are_the_meanings.Goals as goal

pub returns-clause-named : goal.returns-clause-named
returns-clause-named c = faults_are_the_meanings

pub returns-clause-shown : goal.returns-clause-shown
returns-clause-shown c = meant_faults_are_shown
