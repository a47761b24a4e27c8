-- The sections of a file, read one after another (on specs/FileSections.antt).
use Rattle.addr2line.proofs.Common.{◌≡◌, Ok, Err, refl, Section, LoaderError, Loading}
use Rattle.gimli.specs.declared.load.SectionId.{SectionId}
use Rattle.gimli.specs.declared.load.SectionId.TheVariants.{DebugAbbrev, DebugAddr, DebugAranges, DebugInfo, DebugLine, DebugLineStr, DebugRanges, DebugRngLists, DebugStr, DebugStrOffsets}
use Rattle.addr2line.specs.FileSections.{sections_by}

-- sections up to one with a fault give that fault; all ten are what was read
module _ (given : SectionId → Loading Section) where
  pub fault_of_abbrevs : (e : LoaderError) → given DebugAbbrev ≡ Err e → sections_by given ≡ Err e
  unfolding sections_by
  fault_of_abbrevs e fault = rw fault refl

  module _ (abbrevs : Section) (is_abbrevs : given DebugAbbrev ≡ Ok abbrevs) where
    pub fault_of_addr : (e : LoaderError) → given DebugAddr ≡ Err e → sections_by given ≡ Err e
    unfolding sections_by
    fault_of_addr e fault = rw (is_abbrevs, fault) refl

    module _ (addr : Section) (is_addr : given DebugAddr ≡ Ok addr) where
      pub fault_of_aranges : (e : LoaderError) → given DebugAranges ≡ Err e → sections_by given ≡ Err e
      unfolding sections_by
      fault_of_aranges e fault = rw (is_abbrevs, is_addr, fault) refl

      module _ (aranges : Section) (is_aranges : given DebugAranges ≡ Ok aranges) where
        pub fault_of_info : (e : LoaderError) → given DebugInfo ≡ Err e → sections_by given ≡ Err e
        unfolding sections_by
        fault_of_info e fault = rw (is_abbrevs, is_addr, is_aranges, fault) refl

        module _ (info : Section) (is_info : given DebugInfo ≡ Ok info) where
          pub fault_of_line : (e : LoaderError) → given DebugLine ≡ Err e → sections_by given ≡ Err e
          unfolding sections_by
          fault_of_line e fault = rw (is_abbrevs, is_addr, is_aranges, is_info, fault) refl

          module _ (line : Section) (is_line : given DebugLine ≡ Ok line) where
            pub fault_of_line_str : (e : LoaderError) → given DebugLineStr ≡ Err e → sections_by given ≡ Err e
            unfolding sections_by
            fault_of_line_str e fault = rw (is_abbrevs, is_addr, is_aranges, is_info, is_line, fault) refl

            module _ (line_str : Section) (is_line_str : given DebugLineStr ≡ Ok line_str) where
              pub fault_of_ranges : (e : LoaderError) → given DebugRanges ≡ Err e → sections_by given ≡ Err e
              unfolding sections_by
              fault_of_ranges e fault = rw (is_abbrevs, is_addr, is_aranges, is_info, is_line, is_line_str, fault) refl

              module _ (ranges : Section) (is_ranges : given DebugRanges ≡ Ok ranges) where
                pub fault_of_rnglists : (e : LoaderError) → given DebugRngLists ≡ Err e → sections_by given ≡ Err e
                unfolding sections_by
                fault_of_rnglists e fault = rw (is_abbrevs, is_addr, is_aranges, is_info, is_line, is_line_str, is_ranges, fault) refl

                module _ (rnglists : Section) (is_rnglists : given DebugRngLists ≡ Ok rnglists) where
                  pub fault_of_str : (e : LoaderError) → given DebugStr ≡ Err e → sections_by given ≡ Err e
                  unfolding sections_by
                  fault_of_str e fault = rw (is_abbrevs, is_addr, is_aranges, is_info, is_line, is_line_str, is_ranges, is_rnglists, fault) refl

                  module _ (str : Section) (is_str : given DebugStr ≡ Ok str) where
                    pub fault_of_str_offsets : (e : LoaderError) → given DebugStrOffsets ≡ Err e → sections_by given ≡ Err e
                    unfolding sections_by
                    fault_of_str_offsets e fault = rw (is_abbrevs, is_addr, is_aranges, is_info, is_line, is_line_str, is_ranges, is_rnglists, is_str, fault) refl

                    module _ (str_offsets : Section) (is_str_offsets : given DebugStrOffsets ≡ Ok str_offsets) where
                      pub sections_are : sections_by given ≡ Ok (record { debug_abbrev = abbrevs; debug_addr = addr; debug_aranges = aranges; debug_info = info; debug_line = line; debug_line_str = line_str; debug_ranges = ranges; debug_rnglists = rnglists; debug_str = str; debug_str_offsets = str_offsets })
                      unfolding sections_by
                      sections_are = rw (is_abbrevs, is_addr, is_aranges, is_info, is_line, is_line_str, is_ranges, is_rnglists, is_str, is_str_offsets) refl
