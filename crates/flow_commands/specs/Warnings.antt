-- What a warning says of a File: the place where it stopped, and the records of its messages that aren't read, or are
-- summed otherwise than their exporter may mean.
use Rattle.std.specs.Prelude.{ℕ, ◌-◌, List, [], ◌∷◌, ◌++◌, Bool, ◌||◌, Option, Some, None, codes, nat_eq, nat_lt}
use Rattle.std.specs.Prelude.{if◌then◌else◌}
use Rattle.std.specs.Fmt.{decimal}
use Rattle.std.specs.List.{filter_map, join_by, list_all}
use Rattle.std.specs.Option.{is_none}
use Rattle.flow_codec.specs.declared.file.FileError.TheVariants as file
use Rattle.flow_codec.specs.declared.error.MessageError.{MessageError}
use Rattle.flow_codec.specs.declared.error.MessageError.TheVariants as message
use Rattle.flow_codec.specs.declared.stream.StreamError.{StreamError}
use Rattle.flow_codec.specs.declared.stream.StreamError.TheVariants as stream
use Rattle.flow_archive.specs.declared.refusal.ArchiveError.TheVariants as archive
use Rattle.flow_feed.specs.declared.batch.FeedStop.{FeedStop}
use Rattle.flow_feed.specs.declared.batch.FeedStop.TheVariants as stop
use Rattle.flow_codec.specs.declared.losses.Losses.{Losses}
use Rattle.flow_commands.specs.declared.warning.LackPart.{LackPart}
use Rattle.flow_commands.specs.declared.warning.LackPart.TheVariants.{OfDomain, OfDomains, Gaps}
use Rattle.flow_commands.specs.declared.warning.LackPart.TheVariants.{Placed, Uncounted, Sampled}
use Rattle.flow_commands.specs.declared.warning.Lacks.{Lacks}
use Rattle.flow_commands.specs.declared.warning.StopPlace.{StopPlace}
use Rattle.flow_commands.specs.declared.warning.StopPlace.TheVariants.{OfFile, OfMessage, Unknown}

-- the octet of a message at which it has a fault
abbrev pub message_place : MessageError → StopPlace
message_place (message.SetLength at) = OfMessage at
message_place (message.TemplateCut at) = OfMessage at
message_place (message.TemplateId at) = OfMessage at
message_place (message.ScopeCount at) = OfMessage at
message_place (message.RecordCut at) = OfMessage at
message_place fault = Unknown

-- the octet of a File at which it has a fault
abbrev pub stream_place : StreamError → StopPlace
stream_place (stream.File (file.Cut at)) = OfFile at
stream_place (stream.File (file.Version at)) = OfFile at
stream_place (stream.File (file.Length at)) = OfFile at
stream_place error = Unknown

abbrev pub stop_place : FeedStop → StopPlace
stop_place (stop.File error) = stream_place error
stop_place (stop.Archive (archive.Message fault)) = message_place fault
stop_place stopped = Unknown

abbrev pub place_text : StopPlace → List ℕ
place_text (OfFile at) = codes " at octet " ++ decimal at
place_text (OfMessage at) = codes " at octet " ++ decimal at ++ codes " of the next one"
place_text Unknown = []

-- ---- records that aren't read, or are summed otherwise than their exporter may mean

-- data Sets without a definition in force: those of the first domain, and those of others
abbrev pub unread_by : Option ℕ → Losses → Option LackPart
unread_by None losses = None
unread_by (Some domain) losses =
    if nat_eq losses.elsewhere 0 then Some (OfDomain (losses.unread - losses.elsewhere) domain)
    else Some (OfDomains (losses.unread - losses.elsewhere) domain losses.elsewhere)

abbrev pub unread_part : Losses → Option LackPart
unread_part losses = unread_by losses.domain losses

-- records that Sequence Numbers leave out
abbrev pub gap_part : Losses → Option LackPart
gap_part losses = if nat_eq losses.gaps 0 then None else Some (Gaps losses.missing losses.gaps)

-- flows, where some are counted
abbrev pub flows_part : (ℕ → LackPart) → ℕ → Option LackPart
flows_part part flows = if nat_eq flows 0 then None else Some (part flows)

abbrev pub parts_of : Losses → List (Option LackPart)
parts_of losses =
    unread_part losses ∷ gap_part losses ∷ flows_part Placed losses.caveats.placed
    ∷ flows_part Uncounted losses.caveats.uncounted ∷ flows_part Sampled losses.caveats.sampled ∷ []

abbrev pub part_text : LackPart → List ℕ
part_text (OfDomain sets domain) =
    decimal sets ++ codes " data sets of domain " ++ decimal domain ++ codes " had no template"
part_text (OfDomains sets domain others) =
    decimal sets ++ codes " data sets of domain " ++ decimal domain ++ codes " had no template, and " ++ decimal others
    ++ codes " of other domains"
part_text (Gaps missing gaps) =
    decimal missing ++ codes " records are missing, in " ++ decimal gaps ++ codes " gaps of sequence numbers"
part_text (Placed flows) = decimal flows ++ codes " flows have no start time of their own"
part_text (Uncounted flows) =
    decimal flows ++ codes " flows have octets or packets only in elements that aren't summed"
part_text (Sampled flows) = decimal flows ++ codes " flows have a sampling rate"

-- nothing is said where there is no part
abbrev pub lacks_of : Losses → Option Lacks
lacks_of losses = if list_all is_none (parts_of losses) then None else Some (record { parts = parts_of losses })

-- the parts that are there, joined by "; "
abbrev pub lacks_text : Lacks → List ℕ
lacks_text lacks = join_by part_text (codes "; ") (filter_map (λ part. part) lacks.parts)

-- a piece of messages shows anything of this
abbrev pub shows_more : Losses → Bool
shows_more piece =
    nat_lt 0 piece.unread || nat_lt 0 piece.gaps || nat_lt 0 piece.caveats.placed
    || nat_lt 0 piece.caveats.uncounted || nat_lt 0 piece.caveats.sampled
