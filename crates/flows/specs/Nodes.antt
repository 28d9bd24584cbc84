-- The node table: an entry for each month, limit and node.
use Rattle.std.specs.Prelude.{ℕ, ◌+◌, ◌-◌, ◌*◌, Bool, cond, ◌&&◌, List, length, ℤ, pos, ◌-ℤ◌, Some, None, Option, nat_le, nat_lt, slice_index_or}
use Rattle.terms.specs.Ranges.{months, most_limits, most_nodes, most_entry}
use Rattle.flows.specs.Factors.{kept}

-- at most 48 limits and 64 nodes; the month is 1 to 12, the limit 1 to their count, the node below theirs
abbrev pub in_table : ℕ → ℕ → ℕ → ℕ → ℕ → Bool
in_table limits nodes month limit node =
    nat_le limits most_limits && (nat_le nodes most_nodes && (nat_le 1 month && (nat_le month months && (nat_le 1 limit && (nat_le limit limits && nat_lt node nodes)))))

-- where an entry stands, from 0: month by month, in a month limit by limit, at a limit node by node
abbrev pub place : ℕ → ℕ → ℕ → ℕ → ℕ → ℕ
place limits nodes month limit node = ((month - 1) * limits + (limit - 1)) * nodes + node

-- what stands at the place of a node in a month at a limit, none beyond the table or past the end of its entries
abbrev pub stored_at : ℕ → ℕ → List ℤ → ℕ → ℕ → ℕ → Option ℤ
stored_at limits nodes entries month limit node =
    cond (in_table limits nodes month limit node && nat_lt (place limits nodes month limit node) (length entries))
    (Some (slice_index_or entries (place limits nodes month limit node) (pos 0)))
    None

-- an entry lies within ±1,000,000, and one beyond is none
abbrev pub in_entry_range : Option ℤ → Option ℤ
in_entry_range (Some e) = kept (pos most_entry) e
in_entry_range None = None

-- the entry of a node in a month at a limit
abbrev pub entry_at : ℕ → ℕ → List ℤ → ℕ → ℕ → ℕ → Option ℤ
entry_at limits nodes entries month limit node = in_entry_range (stored_at limits nodes entries month limit node)

-- the difference of two entries, none without both
abbrev pub less : Option ℤ → Option ℤ → Option ℤ
less (Some a) (Some b) = Some (a -ℤ b)
less (Some a) None = None
less None b = None

-- the factor of a pair of nodes: the injection entry less the withdrawal entry
abbrev pub node_factor : ℕ → ℕ → List ℤ → ℕ → ℕ → ℕ → ℕ → Option ℤ
node_factor limits nodes entries month limit injection withdrawal =
    less (entry_at limits nodes entries month limit injection) (entry_at limits nodes entries month limit withdrawal)
