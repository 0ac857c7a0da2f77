-- What is kept of the packets of a batch, and how they are dealt to the seats.
-- Source: this project's own.
use Rattle.std.specs.Prelude.{◌≡◌, ℕ, suc, ◌+◌, ◌≤◌, ◌==◌, List, [], ◌∷◌, All, length, map, filter}
use Rattle.std.specs.List.{range_with_len}
use Rattle.packet_heads.specs.declared.framing.Framing.{Framing}
use Rattle.packet_adders.specs.declared.frames.Frame.{Frame}
use Rattle.packet_adders.specs.Frames.{IsFrameOf}
use Rattle.totals_runner.specs.declared.frames.Frames.{Frames}
use Rattle.totals_runner.specs.PacketAdds.{seat_for}

-- the frames of these packets, so framed, counted on from this number
abbrev pub AreFrames : Framing → ℕ → List (List ℕ) → List Frame → Type 0
AreFrames framing number [] frames = frames ≡ []
AreFrames framing number (packet ∷ packets) frames =
    (frame : Frame) × (others : List Frame) × IsFrameOf framing number packet frame × AreFrames framing (suc number)
    packets others
    × (frames ≡ frame ∷ others)

-- those of a seat, in their order
abbrev pub frames_by : (seats seat : ℕ) → List Frame → List Frame
frames_by seats seat frames = filter (λ frame. seat_for seats frame.packet == seat) frames

-- those of each seat, seat 0 first
abbrev pub shares_in : (seats : ℕ) → List Frame → List (List Frame)
shares_in seats frames = map (λ seat. frames_by seats seat frames) (range_with_len 0 seats)

-- These packets are kept, which stand behind so many others. None is longer than a capture allows.
pub record HasFrames (kept : Frames) (before : ℕ) (packets : List (List ℕ)) : Type 0 where
  pub are : AreFrames kept.framing (before + 1) packets kept.frames.items
  pub behind : kept.before ≡ before
  pub short : All (λ packet. length packet ≤ 262144) packets
