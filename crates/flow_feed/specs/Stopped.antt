-- Which refusal a File stopped by.
use Rattle.flow_archive.specs.Refusals.{archive_code}
use Rattle.flow_codec.specs.Printed.{stream_code}
use Rattle.flow_refusals.specs.declared.code.RefusalCode.{RefusalCode}
use Rattle.flow_refusals.specs.declared.code.RefusalCode.TheVariants as code
use Rattle.flow_feed.specs.declared.batch.FeedStop.{FeedStop}
use Rattle.flow_feed.specs.declared.batch.FeedStop.TheVariants.{File, Archive, OutOfMemory, Unopened, Unreceived}

abbrev pub stop_code : FeedStop → RefusalCode
stop_code (File error) = stream_code error
stop_code (Archive error) = archive_code error
stop_code OutOfMemory = code.OutOfMemory
stop_code Unopened = code.Read
stop_code (Unreceived failed) = code.Read
