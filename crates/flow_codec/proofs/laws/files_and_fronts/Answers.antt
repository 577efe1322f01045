use Rattle.flow_codec.proofs.Files.{whole_is_file, file_unbroken}
use Rattle.flow_codec.proofs.laws.files_and_fronts.Goals as goal

pub returns-clause-file : goal.returns-clause-file
returns-clause-file c = λ octets messages after front. whole_is_file octets messages after front

pub returns-clause-unbroken : goal.returns-clause-unbroken
returns-clause-unbroken c = λ octets messages others after then fault file front.
    file_unbroken octets messages others after then fault file front
