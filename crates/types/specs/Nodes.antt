-- Node IDs (powerlink-rs: types.rs).
-- Assumes nothing.
use Rattle.std.specs.Prelude.{ℕ, Bool, ◌&&◌, leb}
use Rattle.types.specs.declared.NodeId.{NodeId}

-- the largest ID of a controlled node
abbrev pub max_cn_node : ℕ
max_cn_node = 239

-- the managing node
abbrev pub managing_node : ℕ
managing_node = 240

-- all nodes
abbrev pub broadcast_node : ℕ
broadcast_node = 255

-- 1 to 239: the ID of a controlled node
abbrev pub is_cn_node_id : ℕ → Bool
is_cn_node_id i = leb 1 i && leb i max_cn_node

-- any number as an ID
abbrev pub node : ℕ → NodeId
node i = record { 0 = i }
