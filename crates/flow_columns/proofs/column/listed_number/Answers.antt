use Rattle.flow_elements.specs.Elements.{listed}
use Rattle.std.proofs.Common.{refl}
use Rattle.flow_columns.proofs.Naming.{none_listed}
use Rattle.flow_columns.proofs.column.listed_number.Goals as goal

pub returns-in_default : goal.returns-in_default
returns-in_default c =
    none_listed c.args.name.now listed (
      c.in_default.not-octetDeltaCount,
      (
        c.in_default.not-packetDeltaCount,
        (
          c.in_default.not-octetTotalCount,
          (
            c.in_default.not-packetTotalCount,
            (
              c.in_default.not-flowId,
              (
                c.in_default.not-originalFlowsInitiated,
                (
                  c.in_default.not-ingressInterface,
                  (
                    c.in_default.not-egressInterface,
                    (
                      c.in_default.not-bgpSourceAsNumber,
                      (
                        c.in_default.not-bgpDestinationAsNumber,
                        (
                          c.in_default.not-exportingProcessId,
                          (
                            c.in_default.not-observationDomainId,
                            (
                              c.in_default.not-sourceTransportPort,
                              (
                                c.in_default.not-destinationTransportPort,
                                (
                                  c.in_default.not-vlanId,
                                  (
                                    c.in_default.not-templateId,
                                    (
                                      c.in_default.not-protocolIdentifier,
                                      (
                                        c.in_default.not-ipClassOfService,
                                        (
                                          c.in_default.not-ipVersion,
                                          (
                                            c.in_default.not-flowEndReason,
                                            (
                                              c.in_default.not-valueDistributionMethod,
                                              (
                                                c.in_default.not-sourceIPv4Address,
                                                (
                                                  c.in_default.not-destinationIPv4Address,
                                                  (
                                                    c.in_default.not-sourceIPv6Address,
                                                    (
                                                      c.in_default.not-destinationIPv6Address,
                                                      (
                                                        c.in_default.not-sourceMacAddress,
                                                        (
                                                          c.in_default.not-destinationMacAddress,
                                                          (
                                                            c.in_default.not-flowStartSeconds,
                                                            (
                                                              c.in_default.not-flowEndSeconds,
                                                              (
                                                                c.in_default.not-flowStartMilliseconds,
                                                                (
                                                                  c.in_default.not-flowEndMilliseconds,
                                                                  (
                                                                    c.in_default.not-paddingOctets,
                                                                    tt,
                                                                  ),
                                                                ),
                                                              ),
                                                            ),
                                                          ),
                                                        ),
                                                      ),
                                                    ),
                                                  ),
                                                ),
                                              ),
                                            ),
                                          ),
                                        ),
                                      ),
                                    ),
                                  ),
                                ),
                              ),
                            ),
                          ),
                        ),
                      ),
                    ),
                  ),
                ),
              ),
            ),
          ),
        ),
      ),
    )

pub returns-in-octetDeltaCount : goal.returns-in-octetDeltaCount
returns-in-octetDeltaCount c = rw c.in-octetDeltaCount.is refl

pub returns-in-packetDeltaCount : goal.returns-in-packetDeltaCount
returns-in-packetDeltaCount c = rw c.in-packetDeltaCount.is refl

pub returns-in-octetTotalCount : goal.returns-in-octetTotalCount
returns-in-octetTotalCount c = rw c.in-octetTotalCount.is refl

pub returns-in-packetTotalCount : goal.returns-in-packetTotalCount
returns-in-packetTotalCount c = rw c.in-packetTotalCount.is refl

pub returns-in-flowId : goal.returns-in-flowId
returns-in-flowId c = rw c.in-flowId.is refl

pub returns-in-originalFlowsInitiated : goal.returns-in-originalFlowsInitiated
returns-in-originalFlowsInitiated c = rw c.in-originalFlowsInitiated.is refl

pub returns-in-ingressInterface : goal.returns-in-ingressInterface
returns-in-ingressInterface c = rw c.in-ingressInterface.is refl

pub returns-in-egressInterface : goal.returns-in-egressInterface
returns-in-egressInterface c = rw c.in-egressInterface.is refl

pub returns-in-bgpSourceAsNumber : goal.returns-in-bgpSourceAsNumber
returns-in-bgpSourceAsNumber c = rw c.in-bgpSourceAsNumber.is refl

pub returns-in-bgpDestinationAsNumber : goal.returns-in-bgpDestinationAsNumber
returns-in-bgpDestinationAsNumber c = rw c.in-bgpDestinationAsNumber.is refl

pub returns-in-exportingProcessId : goal.returns-in-exportingProcessId
returns-in-exportingProcessId c = rw c.in-exportingProcessId.is refl

pub returns-in-observationDomainId : goal.returns-in-observationDomainId
returns-in-observationDomainId c = rw c.in-observationDomainId.is refl

pub returns-in-sourceTransportPort : goal.returns-in-sourceTransportPort
returns-in-sourceTransportPort c = rw c.in-sourceTransportPort.is refl

pub returns-in-destinationTransportPort : goal.returns-in-destinationTransportPort
returns-in-destinationTransportPort c = rw c.in-destinationTransportPort.is refl

pub returns-in-vlanId : goal.returns-in-vlanId
returns-in-vlanId c = rw c.in-vlanId.is refl

pub returns-in-templateId : goal.returns-in-templateId
returns-in-templateId c = rw c.in-templateId.is refl

pub returns-in-protocolIdentifier : goal.returns-in-protocolIdentifier
returns-in-protocolIdentifier c = rw c.in-protocolIdentifier.is refl

pub returns-in-ipClassOfService : goal.returns-in-ipClassOfService
returns-in-ipClassOfService c = rw c.in-ipClassOfService.is refl

pub returns-in-ipVersion : goal.returns-in-ipVersion
returns-in-ipVersion c = rw c.in-ipVersion.is refl

pub returns-in-flowEndReason : goal.returns-in-flowEndReason
returns-in-flowEndReason c = rw c.in-flowEndReason.is refl

pub returns-in-valueDistributionMethod : goal.returns-in-valueDistributionMethod
returns-in-valueDistributionMethod c = rw c.in-valueDistributionMethod.is refl

pub returns-in-sourceIPv4Address : goal.returns-in-sourceIPv4Address
returns-in-sourceIPv4Address c = rw c.in-sourceIPv4Address.is refl

pub returns-in-destinationIPv4Address : goal.returns-in-destinationIPv4Address
returns-in-destinationIPv4Address c = rw c.in-destinationIPv4Address.is refl

pub returns-in-sourceIPv6Address : goal.returns-in-sourceIPv6Address
returns-in-sourceIPv6Address c = rw c.in-sourceIPv6Address.is refl

pub returns-in-destinationIPv6Address : goal.returns-in-destinationIPv6Address
returns-in-destinationIPv6Address c = rw c.in-destinationIPv6Address.is refl

pub returns-in-sourceMacAddress : goal.returns-in-sourceMacAddress
returns-in-sourceMacAddress c = rw c.in-sourceMacAddress.is refl

pub returns-in-destinationMacAddress : goal.returns-in-destinationMacAddress
returns-in-destinationMacAddress c = rw c.in-destinationMacAddress.is refl

pub returns-in-flowStartSeconds : goal.returns-in-flowStartSeconds
returns-in-flowStartSeconds c = rw c.in-flowStartSeconds.is refl

pub returns-in-flowEndSeconds : goal.returns-in-flowEndSeconds
returns-in-flowEndSeconds c = rw c.in-flowEndSeconds.is refl

pub returns-in-flowStartMilliseconds : goal.returns-in-flowStartMilliseconds
returns-in-flowStartMilliseconds c = rw c.in-flowStartMilliseconds.is refl

pub returns-in-flowEndMilliseconds : goal.returns-in-flowEndMilliseconds
returns-in-flowEndMilliseconds c = rw c.in-flowEndMilliseconds.is refl

pub returns-in-paddingOctets : goal.returns-in-paddingOctets
returns-in-paddingOctets c = rw c.in-paddingOctets.is refl
