-- The services that an SoA frame requests, and their codes (EPSG DS 301, Appendix 3.4). That only these are
-- read is powerlink-rs's rule.
-- Assumes nothing.
use Rattle.std.specs.Prelude.{ℕ, List, [], ◌∷◌, Result, Ok, Err}
use Rattle.types.specs.Codes.{decoded}
use Rattle.types.specs.declared.requested_service.RequestedServiceId.{RequestedServiceId}
use Rattle.types.specs.declared.requested_service.RequestedServiceId.TheVariants.{NoService, IdentRequest, StatusRequest, NmtRequestInvite, UnspecifiedInvite}
use Rattle.types.specs.declared.hal.PowerlinkError.{PowerlinkError}
use Rattle.types.specs.declared.hal.PowerlinkError.TheVariants.{InvalidRequestedServiceId}

abbrev pub requested_code : RequestedServiceId → ℕ
requested_code NoService = 0x00
requested_code IdentRequest = 0x01
requested_code StatusRequest = 0x02
requested_code NmtRequestInvite = 0x03
requested_code UnspecifiedInvite = 0xFF

abbrev pub requested_services : List RequestedServiceId
requested_services = NoService ∷ IdentRequest ∷ StatusRequest ∷ NmtRequestInvite ∷ UnspecifiedInvite ∷ []

-- the requested service whose code is b, or b itself where it is the code of none
unfoldable pub requested_of : ℕ → Result RequestedServiceId PowerlinkError
requested_of b = decoded requested_code Ok (Err (InvalidRequestedServiceId b)) requested_services b
