-- The limits of an archive.
use Rattle.std.specs.Prelude.{ℕ, ◌^◌}

-- the greatest width of an interval, in seconds: a day
abbrev pub greatest_width : ℕ
greatest_width = 86400

-- the least and the greatest limit of a segment's messages, in octets: the longest message fits the least
abbrev pub least_limit : ℕ
least_limit = 65535

abbrev pub greatest_limit : ℕ
greatest_limit = 16777216

-- the most files that a manifest names, the active one among them
abbrev pub most_entries : ℕ
most_entries = 4096

-- one more than the most messages of an archive
abbrev pub too_many_messages : ℕ
too_many_messages = 2 ^ 48
