-- What messages show of records that aren't read, or are summed otherwise than their exporter may mean.
use Rattle.std.specs.Prelude.{ℕ, ◌+◌, ◌-◌, ◌%◌, ◌^◌, ◌≤◌, List, [], ◌∷◌, min, Option, Some, None, nat_eq, nat_lt}
use Rattle.std.specs.Prelude.{if◌then◌else◌}
use Rattle.std.specs.Option.{option_or}
use Rattle.flow_codec.specs.declared.losses.CaveatCounts.{CaveatCounts}
use Rattle.flow_codec.specs.declared.losses.Losses.{Losses}
use Rattle.flow_codec.specs.declared.walk.Walked.{Walked}

-- counts stop at 2^64 - 1
abbrev pub up_to : ℕ → ℕ
up_to count = min count (2 ^ 64 - 1)

-- ---- flows that are summed otherwise

abbrev pub no_caveats : CaveatCounts
no_caveats = record { placed = 0; uncounted = 0; sampled = 0 }

abbrev pub both_caveats : CaveatCounts → CaveatCounts → CaveatCounts
both_caveats a b = record {
  placed = up_to (a.placed + b.placed);
  uncounted = up_to (a.uncounted + b.uncounted);
  sampled = up_to (a.sampled + b.sampled);
}

-- ---- messages

abbrev pub no_losses : Losses
no_losses = record { unread = 0; domain = None; elsewhere = 0; gaps = 0; missing = 0; caveats = no_caveats }

-- how far a Sequence Number is past the due one, modulo 2^32
abbrev pub distance : ℕ → ℕ → ℕ
distance due sequence = (sequence + (2 ^ 32 - due)) % 2 ^ 32

-- how many records it leaves out: it is past the due one by less than half of all numbers, or before it
abbrev pub gap_of : ℕ → ℕ
gap_of n = if nat_lt n (2 ^ 31) then n else 0

abbrev pub gap_at : ℕ → Option ℕ → ℕ
gap_at sequence None = 0
gap_at sequence (Some due) = gap_of (distance due sequence)

-- those of a message, at which a Sequence Number was due, or any was right, without what its flows are summed as
abbrev pub losses_of : Walked → Option ℕ → Losses
losses_of walked due = record {
  unread = walked.unread.sets;
  domain = if nat_eq walked.unread.sets 0 then None else Some walked.header.domain;
  elsewhere = 0;
  gaps = if nat_eq (gap_at walked.header.sequence due) 0 then 0 else 1;
  missing = gap_at walked.header.sequence due;
  caveats = no_caveats;
}

abbrev pub elsewhere_than : ℕ → Option ℕ → Losses → ℕ
elsewhere_than first None more = more.elsewhere
elsewhere_than first (Some domain) more = if nat_eq first domain then more.elsewhere else more.unread

-- how many unread Sets are of another domain than this first one
abbrev pub elsewhere_of : Option ℕ → Losses → ℕ
elsewhere_of None more = more.elsewhere
elsewhere_of (Some first) more = elsewhere_than first more.domain more

-- those of messages, and of one message after them
abbrev pub both_losses : Losses → Losses → Losses
both_losses a b = record {
  unread = up_to (a.unread + b.unread);
  domain = option_or a.domain b.domain;
  elsewhere = up_to (a.elsewhere + elsewhere_of a.domain b);
  gaps = up_to (a.gaps + b.gaps);
  missing = up_to (a.missing + b.missing);
  caveats = both_caveats a.caveats b.caveats;
}

-- ---- of messages that are counted by pieces, as those of several batches

-- of one message after the other, counted from some on
abbrev pub losses_from : Losses → List Losses → Losses
losses_from a [] = a
losses_from a (message ∷ messages) = losses_from (both_losses a message) messages

-- what counts messages after these begins with their first domain, and with nothing else
abbrev pub none_after : Losses → Losses
none_after a = record no_losses { domain = a.domain }

-- those of messages, and those of a piece of messages after them, which was counted from `none_after` on
abbrev pub joined_losses : Losses → Losses → Losses
joined_losses a piece = record {
  unread = up_to (a.unread + piece.unread);
  domain = piece.domain;
  elsewhere = up_to (a.elsewhere + piece.elsewhere);
  gaps = up_to (a.gaps + piece.gaps);
  missing = up_to (a.missing + piece.missing);
  caveats = both_caveats a.caveats piece.caveats;
}

-- counts that stopped at 2^64 - 1
abbrev pub AreCounts : Losses → Type 0
AreCounts a =
    (a.unread ≤ 2 ^ 64 - 1) × (a.elsewhere ≤ 2 ^ 64 - 1) × (a.gaps ≤ 2 ^ 64 - 1) × (a.missing ≤ 2 ^ 64 - 1)
    × (a.caveats.placed ≤ 2 ^ 64 - 1) × (a.caveats.uncounted ≤ 2 ^ 64 - 1) × (a.caveats.sampled ≤ 2 ^ 64 - 1)
