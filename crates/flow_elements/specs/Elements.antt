-- The information elements that are listed (RFC 7012; the numbers are those of IANA's registry).
use Rattle.std.specs.Prelude.{ℕ, ◌==◌, List, [], ◌∷◌, Option, Some, None, option_map, find, codes}
use Rattle.std.specs.Option.{option_map_or}
use Rattle.flow_elements.specs.declared.element.ElementId.{ElementId}
use Rattle.flow_elements.specs.declared.element.Width.TheVariants.{One, Two, Four, Eight}
use Rattle.flow_elements.specs.declared.element.ElementType.{ElementType}
use Rattle.flow_elements.specs.declared.element.ElementType.TheVariants.{Unsigned, Address4, Address6, Mac, Seconds}
use Rattle.flow_elements.specs.declared.element.ElementType.TheVariants.{Milliseconds, Other}

pub record Listed : Type 0 where
  pub number : ℕ
  pub kind : ElementType
  pub name : List ℕ

abbrev pub element : ℕ → ElementType → List ℕ → Listed
element number kind name = record { number = number; kind = kind; name = name }

abbrev pub listed : List Listed
listed =
    element 1 (Unsigned Eight) (codes "octetDeltaCount") ∷
    element 2 (Unsigned Eight) (codes "packetDeltaCount") ∷
    element 85 (Unsigned Eight) (codes "octetTotalCount") ∷
    element 86 (Unsigned Eight) (codes "packetTotalCount") ∷
    element 148 (Unsigned Eight) (codes "flowId") ∷
    element 376 (Unsigned Eight) (codes "originalFlowsInitiated") ∷
    element 10 (Unsigned Four) (codes "ingressInterface") ∷
    element 14 (Unsigned Four) (codes "egressInterface") ∷
    element 16 (Unsigned Four) (codes "bgpSourceAsNumber") ∷
    element 17 (Unsigned Four) (codes "bgpDestinationAsNumber") ∷
    element 144 (Unsigned Four) (codes "exportingProcessId") ∷
    element 149 (Unsigned Four) (codes "observationDomainId") ∷
    element 7 (Unsigned Two) (codes "sourceTransportPort") ∷
    element 11 (Unsigned Two) (codes "destinationTransportPort") ∷
    element 58 (Unsigned Two) (codes "vlanId") ∷
    element 145 (Unsigned Two) (codes "templateId") ∷
    element 4 (Unsigned One) (codes "protocolIdentifier") ∷
    element 5 (Unsigned One) (codes "ipClassOfService") ∷
    element 60 (Unsigned One) (codes "ipVersion") ∷
    element 136 (Unsigned One) (codes "flowEndReason") ∷
    element 384 (Unsigned One) (codes "valueDistributionMethod") ∷
    element 8 Address4 (codes "sourceIPv4Address") ∷
    element 12 Address4 (codes "destinationIPv4Address") ∷
    element 27 Address6 (codes "sourceIPv6Address") ∷
    element 28 Address6 (codes "destinationIPv6Address") ∷
    element 56 Mac (codes "sourceMacAddress") ∷
    element 80 Mac (codes "destinationMacAddress") ∷
    element 150 Seconds (codes "flowStartSeconds") ∷
    element 151 Seconds (codes "flowEndSeconds") ∷
    element 152 Milliseconds (codes "flowStartMilliseconds") ∷
    element 153 Milliseconds (codes "flowEndMilliseconds") ∷
    element 210 Other (codes "paddingOctets") ∷ []

-- An element of an enterprise is never listed.
abbrev pub find_listed : Option ℕ → ℕ → Option Listed
find_listed None number = find (λ e. e.number == number) listed
find_listed (Some enterprise) number = None

abbrev pub type_of : ElementId → ElementType
type_of id = option_map_or (λ e. e.kind) (find_listed id.enterprise id.number) Other

abbrev pub name_of : ElementId → Option (List ℕ)
name_of id = option_map (λ e. e.name) (find_listed id.enterprise id.number)
