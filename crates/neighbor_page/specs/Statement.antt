-- What is claimed of the neighbour page (02, L1), whatever the table holds: "The page is 17 rows of 47 characters, each with a line feed: 816 bytes."
use Rattle.std.specs.Prelude.{ℕ, suc, ◌+◌, ◌*◌, ◌<◌, ◌≤◌, ◌≡◌, true, List, [], ◌∷◌, length, take, drop, get_or}
use Rattle.lists.specs.Lists.{All}
use Rattle.nib.specs.Neighbors.{blank}
use Rattle.nib.specs.declared.NwkNeighbor.{NwkNeighbor}
use Rattle.nib.specs.declared.DeviceType.{DeviceType}
use Rattle.text.specs.Text.{bytes, spaces}
use Rattle.neighbor_page.specs.Page.{page, written}

-- an entry with an address, extended PAN id, PAN id, channel, depth, LQI and relationship; the page shows nothing else of it
abbrev pub entry : ℕ → ℕ → ℕ → ℕ → ℕ → ℕ → ℕ → NwkNeighbor
entry address network pan channel depth lqi relationship =
    record blank {
      network_address = record { 0 = address };
      device_type = DeviceType.Router;
      relationship = relationship;
      lqi = lqi;
      extended_pan_id = record { 0 = network };
      logical_channel = channel;
      depth = depth;
      permit_joining = true;
      potential_parent = 1;
      router_capacity = true;
      end_device_capacity = true;
      pan_id = record { 0 = pan };
    }

-- the 47 characters of row k
abbrev pub characters : ℕ → List NwkNeighbor → List ℕ
characters k es = take 47 (drop (48 * k) (page es))

pub record PageForm : Type 0 where
  pub size : (es : List NwkNeighbor) → length (page es) ≡ 816
  -- a row's bytes are characters, none of them a line feed, and the line feed stands behind them
  pub characters-only : (es : List NwkNeighbor) (k : ℕ) → k < 17 → (length (characters k es) ≡ 47) × All (λ b. 32 ≤ b) (characters k es)
  pub line-feed : (es : List NwkNeighbor) (k : ℕ) → k < 17 → get_or (page es) (48 * k + 47) 0 ≡ 10
  -- "The first row has i a e p c d l k r at the columns' first characters, else spaces."
  pub first : (es : List NwkNeighbor) → characters 0 es ≡ bytes "i  a    e                p    c   d   l   k r  "
  -- the rows of two entries: every column at its widest, and one as a scan makes it
  pub widest : characters 1 (entry 65535 18446744073709551615 65535 255 255 255 255 ∷ []) ≡ bytes " 0 ffff ffffffffffffffff ffff 255 255 255 1 255"
  pub usual : characters 1 (entry 6699 170 17 11 1 26 3 ∷ []) ≡ bytes " 0 1a2b 00000000000000aa 0011  11   1  26 3   3"
  -- "Unused rows are blank."
  pub unused : (es : List NwkNeighbor) (k : ℕ) → length es ≤ k → k < 16 → characters (suc k) es ≡ spaces 47
  -- what stands in a lent buffer of 816 bytes or more: the page, and "bytes past 816 stay"
  pub front : (es : List NwkNeighbor) (b : List ℕ) → 816 ≤ length b → take 816 (written es b) ≡ page es
  pub rest : (es : List NwkNeighbor) (b : List ℕ) → drop 816 (written es b) ≡ drop 816 b
