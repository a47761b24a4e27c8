-- Worked names: C++ names and their texts, and names that have none.
-- Source: the texts are those of llvm-cxxfilt 22.1.8. Own: the limits, and which names have none
-- because what they spell is of a later stage.
use Rattle.std.specs.Prelude.{◌≡◌, ℕ, List, ◌++◌, replicate, Some, None, codes}
use Rattle.std.specs.Str.{byte}
use Rattle.itanium.specs.Demangled.{cxx_text}

-- a name stands for a text
abbrev pub StandsFor : List ℕ → List ℕ → Type 0
StandsFor name text = cxx_text name ≡ Some text

-- a name has no text
abbrev pub HasNoText : List ℕ → Type 0
HasNoText name = cxx_text name ≡ None

-- names of functions and objects
pub record WorkedEntities : Type 0 where
  pub plain : StandsFor (codes "_Z1fv") (codes "f()")
  pub variadic : StandsFor (codes "_Z1fiz") (codes "f(int, ...)")
  pub internal : StandsFor (codes "_ZL1fv") (codes "f()")
  pub initializer : StandsFor (codes "_ZN1aL1bE") (codes "a::b")
  pub unnamed_namespace : StandsFor (codes "_ZN12_GLOBAL__N_11fEv") (codes "(anonymous namespace)::f()")
  pub of_std : StandsFor (codes "_ZSt4endl") (codes "std::endl")
  pub of_stream : StandsFor (codes "_ZNSolsEi") (codes "std::ostream::operator<<(int)")
  pub with_tag : StandsFor (codes "_Z1fB5cxx11v") (codes "f[abi:cxx11]()")
  pub qualified : StandsFor (codes "_ZNKR1S1fEv") (codes "S::f() const &")
  pub string_constructor : StandsFor (codes "_ZNSsC1Ev") (codes "std::basic_string<char, std::char_traits<char>, std::allocator<char>>::basic_string()")
  pub allocator_destructor : StandsFor (codes "_ZNSaIcED2Ev") (codes "std::allocator<char>::~allocator()")
  pub inherited_constructor : StandsFor (codes "_ZN1SCI11BEi") (codes "S::S(int)")
  pub conversion : StandsFor (codes "_ZN1ScviEv") (codes "S::operator int()")
  pub operator_delete : StandsFor (codes "_ZN1SdaEPv") (codes "S::operator delete[](void*)")
  pub template_operator : StandsFor (codes "_ZN1SlsIiEERS_T_") (codes "S& S::operator<<<int>(int)")
  pub literal_operator : StandsFor (codes "_Zli3_kmy") (codes "operator\"\" _km(unsigned long long)")
  pub vendor_operator : StandsFor (codes "_Zv23fooi") (codes "operator foo(int)")
  pub local_object : StandsFor (codes "_ZZ1fvE1x_0") (codes "f()::x")
  pub local_string : StandsFor (codes "_ZZ1fvEs") (codes "f()::string literal")

-- types of parameters and results
pub record WorkedTypes : Type 0 where
  pub builtin_types : StandsFor (codes "_Z1fDnDuDsDiDaDcDhDfDdDe") (codes "f(std::nullptr_t, char8_t, char16_t, char32_t, auto, decltype(auto), half, decimal32, decimal64, decimal128)")
  pub function_pointer : StandsFor (codes "_Z1fPFivE") (codes "f(int (*)())")
  pub nested_functions : StandsFor (codes "_Z1fPFPFicEdE") (codes "f(int (* (*)(double))(char))")
  pub function_result : StandsFor (codes "_Z3retIiEPFicET_") (codes "int (*ret<int>(int))(char)")
  pub array_reference : StandsFor (codes "_Z1fRA3_i") (codes "f(int (&) [3])")
  pub array_pointer : StandsFor (codes "_Z1fPA3_A4_i") (codes "f(int (*) [3][4])")
  pub array_result : StandsFor (codes "_Z3arrIiERA3_iT_") (codes "int (&arr<int>(int)) [3]")
  pub member_function : StandsFor (codes "_Z1fM1SFivE") (codes "f(int (S::*)())")
  pub members : StandsFor (codes "_Z1fM1SKFivREM1Si") (codes "f(int (S::*)() const &, int S::*)")
  pub member_array : StandsFor (codes "_Z1fM1SA2_i") (codes "f(int(S::*) [2])")
  pub qualified_function : StandsFor (codes "_Z1fPKFvvOE") (codes "f(void (*)() const &&)")
  pub qualified_types : StandsFor (codes "_Z1fPVKiPrc") (codes "f(int const volatile*, char restrict*)")
  pub collapsed : StandsFor (codes "_Z1fIRiEvOT_") (codes "void f<int&>(int&)")
  pub function_argument : StandsFor (codes "_Z1fIFvvEEvPKT_") (codes "void f<void ()>(void  const(*)())")
  pub function_and_array : StandsFor (codes "_Z1fRPFvRA2_iE") (codes "f(void (*&)(int (&) [2]))")
  pub complex : StandsFor (codes "_Z1fCdGf") (codes "f(double complex, float imaginary)")
  pub floating : StandsFor (codes "_Z1fDF16_DF16bDF128_") (codes "f(_Float16, std::bfloat16_t, _Float128)")
  pub vectors : StandsFor (codes "_Z1fDv4_iDv_f") (codes "f(int vector[4], float vector[])")
  pub pixels : StandsFor (codes "_Z1fDv8_p") (codes "f(pixel vector[8])")

-- substitutions, template arguments and literals
pub record WorkedSubstitutions : Type 0 where
  pub qualifiers : StandsFor (codes "_Z1fPKPKcS0_S2_S_") (codes "f(char const* const*, char const*, char const* const*, char const)")
  pub prefixes : StandsFor (codes "_Z1fN1a1bENS_1cES0_S1_S_") (codes "f(a::b, a::c, a::b, a::c, a)")
  pub arguments : StandsFor (codes "_Z1fSt6vectorIiSaIiEES1_S0_") (codes "f(std::vector<int, std::allocator<int>>, std::vector<int, std::allocator<int>>, std::allocator<int>)")
  pub tagged : StandsFor (codes "_ZNSsB5cxx111fERKS_") (codes "std::string[abi:cxx11]::f(std::string[abi:cxx11] const&)")
  pub member : StandsFor (codes "_ZNSt6vectorIiSaIiEE9push_backERKi") (codes "std::vector<int, std::allocator<int>>::push_back(int const&)")
  pub stream_operator : StandsFor (codes "_ZStlsISt11char_traitsIcEERSt13basic_ostreamIcT_ES5_PKc") (codes "std::basic_ostream<char, std::char_traits<char>>& std::operator<<<std::char_traits<char>>(std::basic_ostream<char, std::char_traits<char>>&, char const*)")
  pub constructor : StandsFor (codes "_ZNSt7__cxx1112basic_stringIcSt11char_traitsIcESaIcEEC1EPKcRKS3_") (codes "std::__cxx11::basic_string<char, std::char_traits<char>, std::allocator<char>>::basic_string(char const*, std::allocator<char> const&)")
  pub template_template : StandsFor (codes "_Z1fI1AiEvT_IT0_E") (codes "void f<A, int>(A<int>)")
  pub integers : StandsFor (codes "_Z1fILi3ELin5ELj7ELl1ELm2ELx3ELy4EEvv") (codes "void f<3, -5, 7u, 1l, 2ul, 3ll, 4ull>()")
  pub small_integers : StandsFor (codes "_Z1fILc97ELb1ELs3ELw5ELa6ELh7ELt8ELn9ELo1EEvv") (codes "void f<(char)97, true, (short)3, (wchar_t)5, (signed char)6, (unsigned char)7, (unsigned short)8, (__int128)9, (unsigned __int128)1>()")
  pub typed_literals : StandsFor (codes "_Z1fIL1E3ELN1a1FEn2ELDnELPv0EEvv") (codes "void f<(E)3, (a::F)-2, nullptr, (void*)0>()")

-- special names, suffixes, and a dot before the prefix
pub record WorkedSpecialNames : Type 0 where
  pub vtable : StandsFor (codes "_ZTV1S") (codes "vtable for S")
  pub vtt : StandsFor (codes "_ZTTSt9strstream") (codes "VTT for std::strstream")
  pub construction_vtable : StandsFor (codes "_ZTC1D0_1B") (codes "construction vtable for B-in-D")
  pub thunk : StandsFor (codes "_ZThn8_N1S1fEv") (codes "non-virtual thunk to S::f()")
  pub virtual_thunk : StandsFor (codes "_ZTv0_n24_N1S1fEv") (codes "virtual thunk to S::f()")
  pub covariant_thunk : StandsFor (codes "_ZTch0_h8_N1S1fEv") (codes "covariant return thunk to S::f()")
  pub wrapper : StandsFor (codes "_ZTW1x") (codes "thread-local wrapper routine for x")
  pub initialization : StandsFor (codes "_ZTHN1a1xE") (codes "thread-local initialization routine for a::x")
  pub guard : StandsFor (codes "_ZGVZ1fvE1x") (codes "guard variable for f()::x")
  pub temporary : StandsFor (codes "_ZGRN1a1rE0_") (codes "reference temporary for a::r")
  pub cold : StandsFor (codes "_Z1fv.cold") (codes "f() (.cold)")
  pub clones : StandsFor (codes "_ZL1fi.isra.0.cold") (codes "f(int) (.isra.0.cold)")
  pub dotted : StandsFor (codes "._Z1fv") (codes ".f()")

-- names that have no text
pub record WorkedFaults : Type 0 where
  pub no_prefix : HasNoText (codes "1fv")
  pub cut : HasNoText (codes "_ZN1S1f")
  pub cut_identifier : HasNoText (codes "_Z10f")
  pub no_identifier : HasNoText (codes "_Z0v")
  pub bytes_left : HasNoText (codes "_Z1fvi")
  pub component_out_of_range : HasNoText (codes "_Z1fPiS0_")
  pub parameter_out_of_range : HasNoText (codes "_Z1fIiEvT0_")
  pub no_such_level : HasNoText (codes "_Z1fIiEvT_TL0__")
  pub substitution_alone : HasNoText (codes "_ZNSaE")
  pub arguments_in_conversion : HasNoText (codes "_ZN1ScvSt6vectorIT_SaIS2_EEIiEEv")
  pub local_arguments : HasNoText (codes "_ZZ1fvENK3$_0clIiEEDaT_")
  pub pack : HasNoText (codes "_Z1fIJicEEvDpT_")
  pub expression : HasNoText (codes "_Z1fIiEDTplfp_fp0_ET_S0_")
  pub closure : HasNoText (codes "_ZZN1S1fEiENKUliE_clEi")
  pub block : HasNoText (codes "___Z1fv_block_invoke")
  pub rust_legacy : HasNoText (codes "_ZN3foo3bar17h05af221e174051e9E")

-- the most levels inside one another: an encoding, 498 pointers and a builtin type
pub record WorkedLimits : Type 0 where
  pub deepest_type : StandsFor (codes "_Z1f" ++ replicate 498 (byte "P") ++ codes "i") (codes "f(int" ++ replicate 498 (byte "*") ++ codes ")")
  pub type_too_deep : HasNoText (codes "_Z1f" ++ replicate 499 (byte "P") ++ codes "i")

-- names of each kind
pub record WorkedNames : Type 0 where
  pub entities : WorkedEntities
  pub types : WorkedTypes
  pub substitutions : WorkedSubstitutions
  pub special_names : WorkedSpecialNames
  pub limits : WorkedLimits
  pub faults : WorkedFaults
