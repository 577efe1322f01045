-- What some commands are given: the numbers of a new archive, a span of starts, and how Files are read.
use Rattle.std.specs.Prelude.{◌≡◌, ℕ, ◌≤◌, ◌%◌, ◌&&◌, nat_le, nat_lt, Bool, Option, IfSome, if◌then◌else◌}
use Rattle.flow_manifest.specs.Limits.{greatest_width, least_limit, greatest_limit}
use Rattle.flow_commands.specs.declared.plan.FeedPlan.{FeedPlan}
use Rattle.flow_commands.specs.declared.plan.InputKind.{InputKind}
use Rattle.flow_commands.specs.declared.plan.InputPlan.{InputPlan}
use Rattle.flow_commands.specs.declared.plan.InputKind.TheVariants.{File, Datagrams, Socket}
use Rattle.flow_roller.specs.Asked.{to_keep, to_merge, Asked}

-- A new archive: the width of its intervals in seconds, a wide width where one is asked for, and how many octets of
-- messages a segment takes.
pub record Plan : Type 0 where
  pub width : ℕ
  pub wide : Option ℕ
  pub limit : ℕ

-- a wide width is a multiple of the width, up to a day
pub record IsWide (width wide : ℕ) : Type 0 where
  pub from : width ≤ wide
  pub to : wide ≤ greatest_width
  pub multiple : wide % width ≡ 0

pub record IsPlan (p : Plan) : Type 0 where
  pub width_from : 1 ≤ p.width
  pub width_to : p.width ≤ greatest_width
  pub wide : IfSome p.wide (IsWide p.width)
  pub limit_from : least_limit ≤ p.limit
  pub limit_to : p.limit ≤ greatest_limit

-- flows that start from one second on, and before another
pub record Span : Type 0 where
  pub from : ℕ
  pub to : ℕ

-- whether a start is one of them
abbrev pub is_in : Span → ℕ → Bool
is_in span start = nat_le span.from start && nat_lt start span.to

-- what a plan asks of the roller
abbrev pub IsPlanned : FeedPlan → Asked → Type 0
IsPlanned plan (to_keep keep) = keep ≡ plan.keep
IsPlanned plan (to_merge merge) = merge ≡ plan.merge

-- how Files at paths are read
abbrev pub kind_in : FeedPlan → InputKind
kind_in plan = if plan.datagrams then Datagrams else File plan.passed

-- how standard input is read, which is a socket or isn't
abbrev pub input_kind_in : Bool → FeedPlan → InputKind
input_kind_in is_socket plan = if plan.datagrams && is_socket then Socket else kind_in plan

-- how an input that is read so is fed
abbrev pub planned : FeedPlan → InputKind → InputPlan
planned plan kind = record { kind = kind; ends = plan.ends }
