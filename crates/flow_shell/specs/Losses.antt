-- What the Files that were fed show not to be read, or to be summed otherwise, and the answer to `losses`.
use Rattle.std.specs.Prelude.{◌≡◌, ◌⊎◌, ℕ, ◌+◌, List, [], ◌++◌, Option, Some, None, codes, get_or, nat_eq}
use Rattle.std.specs.Prelude.{if◌then◌else◌}
use Rattle.std.specs.Fmt.{decimal}
use Rattle.std.specs.Option.{option_or}
use Rattle.std.specs.Io.KnownBytes.{Appends}
use Rattle.flow_refusals.specs.Table.{code_text, row_of}
use Rattle.flow_refusals.specs.declared.code.RefusalCode.{RefusalCode}
use Rattle.flow_refusals.specs.declared.code.RefusalCode.TheVariants as code
use Rattle.flow_codec.specs.Losses.{both_caveats, no_caveats, up_to}
use Rattle.flow_codec.specs.declared.losses.CaveatCounts.{CaveatCounts}
use Rattle.flow_codec.specs.declared.losses.Losses.{Losses}
use Rattle.flow_feed.specs.Datagrams.{AreNone, IsOneMore}
use Rattle.flow_shell.specs.declared.losses.FeedCounts.{FeedCounts}
use Rattle.flow_shell.specs.declared.losses.Missed.{Missed}
use Rattle.flow_shell.specs.declared.losses.Missed.TheVariants.{Records, Datagram}
use Rattle.flow_shell.specs.Written.{done_line}

-- ---- what is counted

-- of no File
abbrev pub IsOfNoFile : FeedCounts → Type 0
IsOfNoFile counts =
    (counts.sets ≡ 0) × (counts.domain ≡ None) × (counts.gaps ≡ 0) × (counts.records ≡ 0)
    × (counts.caveats ≡ no_caveats) × AreNone counts.refused.counts

-- with what a batch shows; the domain is that of the first Set of all
abbrev pub with_losses : Losses → FeedCounts → FeedCounts
with_losses losses old = record {
  sets = up_to (old.sets + losses.unread);
  domain = option_or old.domain losses.domain;
  gaps = up_to (old.gaps + losses.gaps);
  records = up_to (old.records + losses.missing);
  caveats = both_caveats old.caveats losses.caveats;
  refused = old.refused;
}

-- What was missed is added, and nothing else changes: of a datagram one by the number of its refusal.
abbrev pub IsCounted : Missed → FeedCounts → FeedCounts → Type 0
IsCounted (Records losses) old new = new ≡ with_losses losses old
IsCounted (Datagram fault) old new =
    (new ≡ record old { refused = new.refused }) × IsOneMore fault old.refused.counts new.refused.counts

-- ---- what is answered

unfoldable pub domain_text : Option ℕ → List ℕ
domain_text None = []
domain_text (Some domain) = codes "domain " ++ decimal domain ++ codes "\n"

-- flows that are summed otherwise than their exporter may mean
unfoldable pub caveats_text : CaveatCounts → List ℕ
caveats_text caveats =
    codes "placed " ++ decimal caveats.placed ++ codes "\nuncounted " ++ decimal caveats.uncounted
    ++ codes "\nsampled " ++ decimal caveats.sampled ++ codes "\n"

-- datagrams that were passed over by this refusal, where there are any
unfoldable pub passed_text : List ℕ → RefusalCode → List ℕ
passed_text counts refusal =
    if nat_eq (get_or counts (row_of refusal).number 0) 0 then []
    else codes "datagrams " ++ decimal (get_or counts (row_of refusal).number 0) ++ codes " " ++ code_text refusal
    ++ codes "\n"

-- by each refusal that a message may earn, in the order of their numbers
unfoldable pub refused_text : List ℕ → List ℕ
refused_text counts =
    passed_text counts code.Short ++ passed_text counts code.Version ++ passed_text counts code.Length
    ++ passed_text counts code.SetLength ++ passed_text counts code.TemplateCut ++ passed_text counts code.TemplateId
    ++ passed_text counts code.ScopeCount ++ passed_text counts code.RecordCut
    ++ passed_text counts code.TemplatesFull ++ passed_text counts code.DomainsFull

abbrev pub losses_text : FeedCounts → List ℕ
losses_text counts =
    codes "sets " ++ decimal counts.sets ++ codes "\n" ++ domain_text counts.domain
    ++ codes "gaps " ++ decimal counts.gaps ++ codes "\n"
    ++ codes "records " ++ decimal counts.records ++ codes "\n" ++ caveats_text counts.caveats
    ++ refused_text counts.refused.counts

-- What `losses` is answered: counts that the board had, and done 0; or that there is no memory for the lines.
abbrev pub HasLosses : (FeedCounts → Type 0) → Option (List ℕ) → Option (List ℕ) → Type 0
HasLosses had old new =
    ((counts : FeedCounts) × ∥ had counts ∥₁ × Appends old new (losses_text counts ++ done_line 0))
    ⊎ Appends old new (codes "refused 11 OutOfMemory\n" ++ done_line 4)
