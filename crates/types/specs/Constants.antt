-- The constants of POWERLINK, each with its number: EtherType and node IDs (powerlink-rs: types.rs), and the multicast addresses (EPSG
-- DS 301, Appendix 3).
-- Assumes nothing.
use Rattle.std.specs.Prelude.{◌≡◌, [], ◌∷◌}
use Rattle.types.specs.Addresses.{multicast_soc, multicast_pres, multicast_soa, multicast_asnd}
use Rattle.types.specs.Header.{ethertype_epl}
use Rattle.types.specs.Nodes.{max_cn_node, managing_node, broadcast_node}
use Rattle.types.specs.declared.constants.Constants.{Constants}

-- those of the code
abbrev pub powerlink_constants : Constants
powerlink_constants =
    record {
      ethertype_epl = 0x88AB;
      max_cn_node_id = 239;
      mn_def_node_id = 240;
      broadcast_node_id = 255;
      multicast_soc = record { 0 = 0x01 ∷ 0x11 ∷ 0x1E ∷ 0x00 ∷ 0x00 ∷ 0x01 ∷ [] };
      multicast_pres = record { 0 = 0x01 ∷ 0x11 ∷ 0x1E ∷ 0x00 ∷ 0x00 ∷ 0x02 ∷ [] };
      multicast_soa = record { 0 = 0x01 ∷ 0x11 ∷ 0x1E ∷ 0x00 ∷ 0x00 ∷ 0x03 ∷ [] };
      multicast_asnd = record { 0 = 0x01 ∷ 0x11 ∷ 0x1E ∷ 0x00 ∷ 0x00 ∷ 0x04 ∷ [] };
    }

-- and those that the definitions of frames go by
pub record ConstantsTell : Type 0 where
  pub ethertype : ethertype_epl ≡ 0x88AB
  pub controlled : max_cn_node ≡ 239
  pub managing : managing_node ≡ 240
  pub broadcast : broadcast_node ≡ 255
  pub soc : multicast_soc ≡ 0x01 ∷ 0x11 ∷ 0x1E ∷ 0x00 ∷ 0x00 ∷ 0x01 ∷ []
  pub pres : multicast_pres ≡ 0x01 ∷ 0x11 ∷ 0x1E ∷ 0x00 ∷ 0x00 ∷ 0x02 ∷ []
  pub soa : multicast_soa ≡ 0x01 ∷ 0x11 ∷ 0x1E ∷ 0x00 ∷ 0x00 ∷ 0x03 ∷ []
  pub asnd : multicast_asnd ≡ 0x01 ∷ 0x11 ∷ 0x1E ∷ 0x00 ∷ 0x00 ∷ 0x04 ∷ []
